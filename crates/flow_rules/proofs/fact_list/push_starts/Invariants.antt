use Rattle.flow_rules.specs.tools.Added.{AreStarts}
use Rattle.flow_rules.proofs.fact_list.push_starts.Given as goal

abbrev pub invariant-loop-var : goal.invariant-loop-var
invariant-loop-var l = AreStarts l.c l.initial.pairs l.pairs l.var
