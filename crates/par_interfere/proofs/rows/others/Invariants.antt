use Rattle.std.proofs.Common.{false, length, replicate}
use Rattle.par_interfere.specs.tools.Branches.{are_beside}
use Rattle.par_interfere.specs.tools.Calls.{AreRows}
use Rattle.par_interfere.specs.tools.Rows.{IsJoinOf}
use Rattle.par_interfere.proofs.Joins.{EachRow, IsAt}
use Rattle.par_interfere.proofs.rows.others.Given as goal

abbrev pub invariant-loop-branch : goal.invariant-loop-branch
invariant-loop-branch l = record {
  shape : AreRows l.branch-index l.width l.others.items;
  each : EachRow (IsAt (λ b. IsJoinOf (are_beside b) l.branches l.bodies (length l.branches) (replicate l.width false)) l.branches) l.branch-index l.others.items;
}
