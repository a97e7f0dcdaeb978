use Rattle.flow_rules.specs.tools.Added.{AreOfLines}
use Rattle.flow_rules.proofs.fact_list.push_fun.Given as goal

abbrev pub invariant-loop-at : goal.invariant-loop-at
invariant-loop-at l = AreOfLines l.c l.p.rows l.fun l.initial.pairs l.pairs l.at
