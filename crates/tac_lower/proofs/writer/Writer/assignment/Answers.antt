use Rattle.std.proofs.Common.{sym, ◌∙◌}
use Rattle.tac_lower.proofs.writer.Writer.assignment.Goals as goal

pub returns-then-is_plain : goal.returns-then-is_plain
returns-then-is_plain c = λ ends. rw (sym c.is_plain.ensures ∙ c.if-is_plain.true) (c.assign.ensures ends)

pub returns-else-is_plain : goal.returns-else-is_plain
returns-else-is_plain c = λ ends. rw (sym c.is_plain.ensures ∙ c.if-is_plain.false) (c.compound.ensures ends)
