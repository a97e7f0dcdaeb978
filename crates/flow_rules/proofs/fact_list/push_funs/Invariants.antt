use Rattle.flow_rules.specs.tools.Added.{AreOfFuns}
use Rattle.flow_rules.proofs.fact_list.push_funs.Given as goal

abbrev pub invariant-loop-fun : goal.invariant-loop-fun
invariant-loop-fun l = AreOfFuns l.c l.p.rows l.initial.pairs l.pairs l.fun
