use Rattle.flow_rules.specs.Tables.{points_by}
use Rattle.flow_rules.specs.tools.PointRules.{CallsHold}
use Rattle.flow_rules.proofs.point_rules.calls_hold.Given as goal

abbrev pub invariant-loop-at : goal.invariant-loop-at
invariant-loop-at l = CallsHold l.c (points_by l.points.rows) l.fun l.callee l.from l.at
