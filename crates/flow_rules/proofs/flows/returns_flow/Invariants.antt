use Rattle.flow_rules.specs.tools.ReachRules.{ReturnsFlow}
use Rattle.flow_rules.proofs.flows.returns_flow.Given as goal

abbrev pub invariant-loop-fun : goal.invariant-loop-fun
invariant-loop-fun l = ReturnsFlow l.c l.r l.p l.fun
