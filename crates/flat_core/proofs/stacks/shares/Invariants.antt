use Rattle.flat_core.proofs.Branches.{AreSoMany}
use Rattle.flat_core.proofs.stacks.shares.Given as goal

abbrev pub invariant-loop-i : goal.invariant-loop-i
invariant-loop-i l = AreSoMany l.stack l.n l.i l.stacks.items
