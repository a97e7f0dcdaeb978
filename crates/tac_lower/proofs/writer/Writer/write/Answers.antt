use Rattle.tac_lower.proofs.writer.Writer.write.Goals as goal

pub returns-in-Direct : goal.returns-in-Direct
returns-in-Direct c = λ ends. rw (c.in-Direct.is) (c.set.ensures ends)

pub returns-in-Left : goal.returns-in-Left
returns-in-Left c = λ ends. rw (c.in-Left.is) (c.store.ensures ends)
