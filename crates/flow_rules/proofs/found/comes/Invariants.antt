use Rattle.flow_rules.specs.tools.Coming.{NoneComes}
use Rattle.flow_rules.proofs.found.comes.Given as goal

abbrev pub invariant-loop-k : goal.invariant-loop-k
invariant-loop-k l = NoneComes l.c l.p.rows l.r l.at l.def l.beside l.k
