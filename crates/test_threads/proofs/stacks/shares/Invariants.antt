use Rattle.std.proofs.Common.{◌≡◌, ℕ, Some}
use Rattle.std.specs.Prelude.{IsTrue, slice_get}
use Rattle.tac_thread.specs.declared.flat.FlatStack.{FlatStack}
use Rattle.tac_thread.specs.Flat.{flat_meaning}
use Rattle.test_threads.proofs.stacks.shares.Given as goal

abbrev pub invariant-loop-i : goal.invariant-loop-i
invariant-loop-i l = (i : ℕ) (s : FlatStack) → slice_get l.stacks.items i ≡ Some s → IsTrue (flat_meaning.has_frame l.c l.fun s)
