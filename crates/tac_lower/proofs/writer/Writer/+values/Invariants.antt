use Rattle.std.proofs.Common.{ℕ, ◌+◌, ◌*◌, List, [], drop, Result}
use Rattle.tac_lower.specs.declared.draft.Ends.{Ends}
use Rattle.tac_lower.specs.declared.writer.Writer.{Writer}
use Rattle.tac_lower.specs.declared.writer.Stop.{Stop}
use Rattle.tac_lower.specs.Parts.{gathered}
use Rattle.tac_lower.specs.tools.Emits.{Emits}
use Rattle.tac_lower.specs.Values.{values_of, sizes_in}
use Rattle.tac_lower.proofs.emitted.Weights.{weight, total}
use Rattle.tac_lower.proofs.writer.Writer.+values.Given as goal

-- whatever emits the other arguments now has emitted all
abbrev pub invariant-arguments-loop-argument : goal.invariant-arguments-loop-argument
invariant-arguments-loop-argument l =
    (ends : Ends) (new : Writer) (r : Result (List ℕ) Stop)
    → Emits (gathered l.temps (values_of l.line (sizes_in l.structs) (drop l.argument-index l.arguments))) ends l.self new r
    → Emits (gathered [] (values_of l.line (sizes_in l.structs) l.arguments)) ends l.fn.self new r

-- Each call is made for a part, or for the same expression by a function that is named later here.
abbrev pub decreases-expr : goal.decreases-expr
decreases-expr l = 6 * weight l.e.now

abbrev pub decreases-argument : goal.decreases-argument
decreases-argument l = 6 * weight l.e.now + 1

abbrev pub decreases-value : goal.decreases-value
decreases-value l = 6 * weight l.e.now + 2

abbrev pub decreases-truth : goal.decreases-truth
decreases-truth l = 6 * weight l.e.now + 3

abbrev pub decreases-truth_points : goal.decreases-truth_points
decreases-truth_points l = 6 * weight l.e.now + 4

abbrev pub decreases-arguments : goal.decreases-arguments
decreases-arguments l = 6 * total l.arguments.now + 2
