use Rattle.tac_thread.specs.Threads.{life_in, IsSettling}
use Rattle.tac_thread.proofs.Trees.{SettlesOn}
use Rattle.tac_thread.proofs.tree.Tree.settle.Given as goal

-- what settles from here settles from the start
abbrev pub invariant-loop-here : goal.invariant-loop-here
invariant-loop-here g l =
    IsSettling g.D.Domain.meaning l.c l.here (life_in l.self) × SettlesOn g.D.Domain.meaning l.c l.name (life_in l.initial.self) l.initial.self.done l.here (life_in l.self) l.self.done

abbrev pub decreases-loop-here : goal.decreases-loop-here
decreases-loop-here g l = l.here
