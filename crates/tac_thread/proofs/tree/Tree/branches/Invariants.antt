use Rattle.std.proofs.Common.{◌≡◌}
use Rattle.tac_thread.proofs.Forking.{AreSoFar}
use Rattle.tac_thread.proofs.tree.Tree.branches.Given as goal

abbrev pub invariant-loop-stack : goal.invariant-loop-stack
invariant-loop-stack g l = (l.i ≡ l.stack-index) × AreSoFar g.D.Domain.meaning l.c l.guest l.s l.stack-index l.branches.items
