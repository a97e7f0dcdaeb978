use Rattle.flow_rules.specs.tools.ReachRules.{FlowsTo}
use Rattle.flow_rules.proofs.flows.flows.Given as goal

abbrev pub invariant-loop-k : goal.invariant-loop-k
invariant-loop-k l = FlowsTo l.c l.r l.killed l.fn.p l.fn.q l.k
