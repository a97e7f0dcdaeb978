use Rattle.flow_rules.specs.PointsClosed.{PointsClosedAt}
use Rattle.flow_rules.specs.Tables.{points_by}
use Rattle.flow_rules.specs.Touches.{touches}
use Rattle.flow_rules.specs.tools.Scan.{HoldsBefore}
use Rattle.flow_rules.proofs.closure.open_for_points.Given as goal

abbrev pub invariant-loop-fun : goal.invariant-loop-fun
invariant-loop-fun l = HoldsBefore l.c (PointsClosedAt l.c (touches l.c l.p.rows) (points_by l.p.rows)) l.fun
