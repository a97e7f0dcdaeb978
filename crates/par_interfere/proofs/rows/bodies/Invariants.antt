use Rattle.std.proofs.Common.{length}
use Rattle.par_interfere.specs.tools.Branches.{has_point}
use Rattle.par_interfere.specs.tools.Calls.{AreRows}
use Rattle.par_interfere.specs.tools.Rows.{IsRowOf}
use Rattle.par_interfere.proofs.Joins.{EachRow, IsAt}
use Rattle.par_interfere.proofs.rows.bodies.Given as goal

abbrev pub invariant-loop-branch : goal.invariant-loop-branch
invariant-loop-branch l = record {
  shape : AreRows l.branch-index (length l.points) l.bodies.items;
  each : EachRow (IsAt (λ b. IsRowOf (has_point b) l.points) l.branches) l.branch-index l.bodies.items;
}
