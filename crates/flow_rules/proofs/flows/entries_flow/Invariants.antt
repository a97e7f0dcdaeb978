use Rattle.flow_rules.specs.tools.ReachRules.{EntriesFlow}
use Rattle.flow_rules.proofs.flows.entries_flow.Given as goal

abbrev pub invariant-loop-i : goal.invariant-loop-i
invariant-loop-i l = EntriesFlow l.c l.r l.p l.entries l.i
