use Rattle.flow_rules.specs.PointNumber.{point_at}
use Rattle.flow_rules.specs.tools.RowsBefore.{AreRowsBefore}
use Rattle.flow_rules.proofs.table.push_rows.Given as goal

abbrev pub invariant-loop-at : goal.invariant-loop-at
invariant-loop-at l = AreRowsBefore l.md (point_at l.fun l.at) l.rows
