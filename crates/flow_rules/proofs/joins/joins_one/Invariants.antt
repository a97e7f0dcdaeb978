use Rattle.flow_rules.specs.tools.ReachRules.{JoinsOne}
use Rattle.flow_rules.proofs.joins.joins_one.Given as goal

abbrev pub invariant-loop-k : goal.invariant-loop-k
invariant-loop-k l = JoinsOne l.c l.r l.fn.p.fun l.fn.join (record { fork = l.fn.p.at; entry = l.fn.entry; last = l.fn.last }) l.k
