use Rattle.flow_rules.proofs.ReachRules.{entry_next}
use Rattle.flow_rules.proofs.flows.entries_flow.Goals as goal

pub loop-i-preserved : goal.loop-i-preserved
loop-i-preserved c = entry_next c.args.c.now c.args.r.now c.args.p c.args.entries.now c.loop-i.i c.loop-i-test.true c.loop-i.invariant (c.leads.ensures.0 c.if-not-leads.false)
