use Rattle.std.proofs.Common.{ap, sym, ◌∙◌}
use Rattle.tac_lower.specs.tools.Plans.{truth_by_int}
use Rattle.tac_lower.proofs.writer.Writer.truth_of.Goals as goal

pub returns-else-is_int : goal.returns-else-is_int
returns-else-is_int c = λ ends. rw (sym c.is_int.ensures ∙ ap truth_by_int c.if-is_int.false) (c.against_null.ensures ends)
