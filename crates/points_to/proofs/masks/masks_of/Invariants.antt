use Rattle.points_to.specs.tools.Marked.{AreMarked}
use Rattle.points_to.proofs.masks.masks_of.Given as goal

abbrev pub invariant-loop-node : goal.invariant-loop-node
invariant-loop-node l = AreMarked l.c l.node l.node l.masks.items
