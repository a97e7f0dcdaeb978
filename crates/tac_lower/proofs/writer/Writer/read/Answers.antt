use Rattle.tac_lower.proofs.writer.Writer.read.Goals as goal

pub returns-in-Direct : goal.returns-in-Direct
returns-in-Direct c = λ ends. rw (c.in-Direct.is) (c.get.ensures ends)

pub returns-in-Left : goal.returns-in-Left
returns-in-Left c = λ ends. rw (c.in-Left.is) (c.load.ensures ends)
