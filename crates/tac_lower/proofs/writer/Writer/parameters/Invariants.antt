use Rattle.std.proofs.Common.{ℕ, ◌≤◌, drop, Result}
use Rattle.tac_lower.specs.declared.draft.Ends.{Ends}
use Rattle.tac_lower.specs.declared.writer.Writer.{Writer}
use Rattle.tac_lower.specs.declared.writer.Stop.{Stop}
use Rattle.tac_lower.proofs.emitted.Parameters.{Parameters}
use Rattle.tac_lower.proofs.writer.Writer.parameters.Given as goal

-- whatever emits the other parameters now has emitted all
abbrev pub invariant-loop-variable : goal.invariant-loop-variable
invariant-loop-variable l =
    (l.k ≤ l.self.next.at)
    × ((ends : Ends) (new : Writer) (r : Result ℕ Stop)
    → Parameters l.k (drop l.variable-index l.variables) ends l.self new r → Parameters 0 l.variables ends l.fn.self new r)
