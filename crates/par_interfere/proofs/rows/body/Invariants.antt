use Rattle.par_interfere.specs.tools.Branches.{has_point}
use Rattle.par_interfere.proofs.Joins.{IsRowTo}
use Rattle.par_interfere.proofs.rows.body.Given as goal

abbrev pub invariant-loop-at : goal.invariant-loop-at
invariant-loop-at l = IsRowTo (has_point l.branch) l.points l.at l.body
