use Rattle.std.proofs.Common.{◌≡◌, length}
use Rattle.tac_thread.specs.Threads.{life_in}
use Rattle.tac_thread.specs.tools.Settling.{IsPlanting}
use Rattle.tac_thread.proofs.tree.Tree.plant.Given as goal

abbrev pub invariant-loop-guest : goal.invariant-loop-guest
invariant-loop-guest g l =
    IsPlanting g.D.Domain.meaning l.c (life_in l.initial.self) l.name l.fn.branches.items l.i l.rest.items (life_in l.self) × (l.self.done ≡ l.initial.self.done)

abbrev pub decreases-loop-guest : goal.decreases-loop-guest
decreases-loop-guest g l = length l.rest.items
