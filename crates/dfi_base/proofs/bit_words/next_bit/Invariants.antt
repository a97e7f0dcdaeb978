use Rattle.std.proofs.Common.{◌≡◌, ℕ, ◌*◌, ◌<◌, ◌≤◌, false}
use Rattle.dfi_base.specs.tools.Packed.{has_bit}
use Rattle.dfi_base.proofs.bit_words.next_bit.Given as goal

abbrev pub invariant-loop-at : goal.invariant-loop-at
invariant-loop-at l = (k : ℕ) → l.from ≤ k → k < 64 * l.at → has_bit l.words k ≡ false
