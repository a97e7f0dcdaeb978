use Rattle.flow_rules.specs.tools.ReachRules.{StartsHold}
use Rattle.flow_rules.proofs.flows.starts_hold.Given as goal

abbrev pub invariant-loop-k : goal.invariant-loop-k
invariant-loop-k l = StartsHold l.c l.r l.fn.p l.k
