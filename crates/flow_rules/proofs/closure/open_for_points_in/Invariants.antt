use Rattle.flow_rules.specs.PointsClosed.{PointsClosedAt}
use Rattle.flow_rules.specs.Tables.{points_by}
use Rattle.flow_rules.specs.Touches.{touches}
use Rattle.flow_rules.specs.tools.Scan.{HoldsUpTo}
use Rattle.flow_rules.proofs.closure.open_for_points_in.Given as goal

abbrev pub invariant-loop-at : goal.invariant-loop-at
invariant-loop-at l = HoldsUpTo (PointsClosedAt l.c (touches l.c l.p.rows) (points_by l.p.rows)) l.fun l.at
