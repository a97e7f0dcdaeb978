use Rattle.std.proofs.Common.{◌<◌, ◌∙◌, arith, length, sym}
use Rattle.tac_ir.specs.Layout.{lines_of}
use Rattle.flow_rules.specs.PointNumber.{point_at}
use Rattle.flow_rules.specs.Tables.{points_by}
use Rattle.flow_rules.proofs.InCode.{no_line}
use Rattle.flow_rules.proofs.PointRules.{return_next}
use Rattle.flow_rules.proofs.point_rules.returns_hold.Goals as goal

pub returns-then-not-calls_hold : goal.returns-then-not-calls_hold
returns-then-not-calls_hold c =
    let low : c.loop-fun.fun < length c.args.c.now.funs = omega (arith, c.loop-fun-test.true, c.len-fun-end.ensures) in
    (λ h. cc, λ h. sym c.if-not-calls_hold.true ∙ c.calls_hold.ensures.1 (record { each = λ at under. h.each (point_at c.loop-fun.fun at) low }))

pub loop-fun-preserved : goal.loop-fun-preserved
loop-fun-preserved c =
    return_next c.args.c.now (points_by c.args.points.now.rows) c.args.callee c.args.from c.loop-fun.fun (length (lines_of c.args.c.now c.loop-fun.fun)) c.loop-fun.invariant
    (c.calls_hold.ensures.0 c.if-not-calls_hold.false) (λ at high. no_line c.args.c.now (point_at c.loop-fun.fun at) high)
