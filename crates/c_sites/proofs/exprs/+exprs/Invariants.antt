use Rattle.c_typed.specs.Sites.{expr}
use Rattle.c_sites.proofs.Loops.{SoFar}
use Rattle.c_sites.proofs.Forms
use Rattle.c_sites.proofs.exprs.+exprs.Given as goal

abbrev pub invariant-arguments-loop-e : goal.invariant-arguments-loop-e
invariant-arguments-loop-e l = SoFar expr l.es l.initial.next l.numbered l.next l.e-index
