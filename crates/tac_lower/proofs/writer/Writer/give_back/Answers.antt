use Rattle.tac_lower.proofs.writer.Writer.give_back.Goals as goal

pub returns-then-in_main : goal.returns-then-in_main
returns-then-in_main c = λ ends. rw (c.if-in_main.true) (c.quiet.ensures ends)

pub returns-else-in_main : goal.returns-else-in_main
returns-else-in_main c = λ ends. rw (c.if-in_main.false) (c.put.ensures ends)
