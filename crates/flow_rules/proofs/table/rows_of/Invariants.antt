use Rattle.flow_rules.specs.PointNumber.{point_at}
use Rattle.flow_rules.specs.tools.RowsBefore.{AreRowsBefore}
use Rattle.flow_rules.proofs.table.rows_of.Given as goal

abbrev pub invariant-loop-fun : goal.invariant-loop-fun
invariant-loop-fun l = AreRowsBefore l.md (point_at l.fun 0) l.rows
