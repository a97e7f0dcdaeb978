use Rattle.flow_rules.specs.tools.ReachRules.{CallsFlow}
use Rattle.flow_rules.proofs.flows.calls_flow.Given as goal

abbrev pub invariant-loop-at : goal.invariant-loop-at
invariant-loop-at l = CallsFlow l.c l.r l.p l.fun l.at
