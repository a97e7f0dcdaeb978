use Rattle.flow_rules.specs.tools.ReachRules.{JoinsAll}
use Rattle.flow_rules.proofs.joins.joins_all.Given as goal

abbrev pub invariant-loop-k : goal.invariant-loop-k
invariant-loop-k l = JoinsAll l.c l.r l.fun l.join l.entries l.k
