use Rattle.std.proofs.Common.{◌<◌, arith, ap, length}
use Rattle.tac_ir.specs.Layout.{lines_of}
use Rattle.flow_rules.specs.PointNumber.{point_at}
use Rattle.flow_rules.proofs.Branches.{branch_of}
use Rattle.flow_rules.proofs.ReachRules.{row_long}
use Rattle.flow_rules.proofs.joins.reaches_ends.Goals as goal

pub get-requires : goal.get-requires
get-requires c =
    let last = (branch_of c.args.c.now c.args.fun c.args.join c.args.entries.now c.requires.branches c.loop-i.i c.loop-i-test.true).last in
    let low : c.last_of-at.result < length (lines_of c.args.c.now c.args.fun) = omega (arith, last, c.last_of-at.ensures) in
    omega (arith, c.requires.k, ap length c.row_at.ensures, row_long c.args.c.now c.args.r.now c.requires.rows (point_at c.args.fun c.last_of-at.result) low)
