use Rattle.std.proofs.Common.{◌<◌, ◌∙◌, arith, length, sym}
use Rattle.flow_rules.specs.PointNumber.{point_at}
use Rattle.flow_rules.proofs.ReachRules.{return_next}
use Rattle.flow_rules.proofs.flows.returns_flow.Goals as goal

pub returns-then-not-calls_flow : goal.returns-then-not-calls_flow
returns-then-not-calls_flow c =
    let low : c.loop-fun.fun < length c.args.c.now.funs = omega (arith, c.loop-fun-test.true, c.len-fun-end.ensures) in
    (λ h. cc, λ h. sym c.if-not-calls_flow.true ∙ c.calls_flow.ensures.1 (record { each = λ at under calls. h.each (point_at c.loop-fun.fun at) low calls }))

pub loop-fun-preserved : goal.loop-fun-preserved
loop-fun-preserved c = return_next c.args.c.now c.args.r.now c.args.p c.loop-fun.fun c.loop-fun.invariant (c.calls_flow.ensures.0 c.if-not-calls_flow.false)
