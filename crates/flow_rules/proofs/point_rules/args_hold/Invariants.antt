use Rattle.flow_rules.specs.Tables.{points_by}
use Rattle.flow_rules.specs.tools.PointRules.{ArgsHold}
use Rattle.flow_rules.proofs.point_rules.args_hold.Given as goal

abbrev pub invariant-loop-temp : goal.invariant-loop-temp
invariant-loop-temp l = ArgsHold (points_by l.points.rows) l.fun l.callee l.args l.temp
