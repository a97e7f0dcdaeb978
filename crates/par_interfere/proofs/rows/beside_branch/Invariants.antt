use Rattle.std.proofs.Common.{false, replicate}
use Rattle.par_interfere.specs.tools.Branches.{are_beside}
use Rattle.par_interfere.specs.tools.Rows.{IsJoinOf}
use Rattle.par_interfere.proofs.rows.beside_branch.Given as goal

abbrev pub invariant-loop-i : goal.invariant-loop-i
invariant-loop-i l = IsJoinOf (are_beside l.branch) l.branches l.bodies l.i (replicate l.width false) l.row
