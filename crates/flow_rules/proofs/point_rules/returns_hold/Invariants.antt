use Rattle.flow_rules.specs.Tables.{points_by}
use Rattle.flow_rules.specs.tools.PointRules.{ReturnsHold}
use Rattle.flow_rules.proofs.point_rules.returns_hold.Given as goal

abbrev pub invariant-loop-fun : goal.invariant-loop-fun
invariant-loop-fun l = ReturnsHold l.c (points_by l.points.rows) l.callee l.from l.fun
