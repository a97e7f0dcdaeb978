use Rattle.std.proofs.Common.{arith, ap, length}
use Rattle.flow_rules.proofs.InCode.{few_lines}
use Rattle.flow_rules.proofs.ReachRules.{call_next}
use Rattle.flow_rules.proofs.flows.calls_flow.Goals as goal

pub overflow_cast-at-end : goal.overflow_cast-at-end
overflow_cast-at-end c = omega (arith, few_lines c.args.c.now c.requires.form c.args.fun, ap length c.lines_of.ensures)

pub loop-at-preserved : goal.loop-at-preserved
loop-at-preserved c = call_next c.args.c.now c.args.r.now c.args.p c.args.fun c.loop-at.at c.loop-at.invariant (c.call_flows.ensures.0 c.if-not-call_flows.false)
