use Rattle.c_typed.specs.Sites.{function}
use Rattle.c_sites.proofs.Loops.{SoFar}
use Rattle.c_sites.proofs.functions.number_from.Given as goal

abbrev pub invariant-loop-f : goal.invariant-loop-f
invariant-loop-f l = SoFar function l.functions l.initial.next l.numbered l.next l.f-index
