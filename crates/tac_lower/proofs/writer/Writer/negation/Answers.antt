use Rattle.tac_lower.proofs.writer.Writer.negation.Goals as goal

pub returns-then-int : goal.returns-then-int
returns-then-int c = λ ends. rw (c.if-int.true) (c.prefixed.ensures ends)

pub returns-else-int : goal.returns-else-int
returns-else-int c = λ ends. rw (c.if-int.false) (c.against_null.ensures ends)
