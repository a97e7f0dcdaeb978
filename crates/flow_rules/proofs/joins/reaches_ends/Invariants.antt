use Rattle.flow_rules.specs.tools.ReachRules.{ReachesEnds}
use Rattle.flow_rules.proofs.joins.reaches_ends.Given as goal

abbrev pub invariant-loop-i : goal.invariant-loop-i
invariant-loop-i l = ReachesEnds l.c l.r l.fun l.join l.entries l.k l.i
