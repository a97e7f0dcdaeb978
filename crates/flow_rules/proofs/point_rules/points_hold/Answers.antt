use Rattle.flow_rules.proofs.InCode.{fun_exists}
use Rattle.flow_rules.proofs.PointRules.{parts_hold, all_hold}
use Rattle.flow_rules.proofs.point_rules.points_hold.Goals as goal

pub returns-then-direct_holds : goal.returns-then-direct_holds
returns-then-direct_holds c = (
  λ h. all_hold c.args.c.now c.args.points.now.rows c.args.p (c.direct_holds.ensures.0 c.if-direct_holds.true) (c.through_holds.ensures.0 h),
  λ h. c.through_holds.ensures.1 (parts_hold c.args.c.now c.args.points.now.rows c.args.p (fun_exists c.args.c.now c.args.p c.requires.point) h).1,
)
