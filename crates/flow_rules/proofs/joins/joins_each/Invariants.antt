use Rattle.flow_rules.specs.tools.ReachRules.{JoinsEach}
use Rattle.flow_rules.proofs.joins.joins_each.Given as goal

abbrev pub invariant-loop-i : goal.invariant-loop-i
invariant-loop-i l = JoinsEach l.c l.r l.p.fun l.p.at l.join l.entries l.i
