use Rattle.std.proofs.Common.{◌≡◌, ℕ, ◌<◌, ◌≤◌, true, false, get_or, length, bit_or}
use Rattle.dfi_base.proofs.bit_words.or_words.Given as goal

abbrev pub invariant-loop-i : goal.invariant-loop-i
invariant-loop-i l = record {
  before : (k : ℕ) → k < l.i → get_or l.words k 0 ≡ bit_or (get_or l.fn.words k 0) (get_or l.other k 0);
  behind : (k : ℕ) → l.i ≤ k → get_or l.words k 0 ≡ get_or l.fn.words k 0;
  fit : (k : ℕ) → get_or l.fn.words k 0 < 18446744073709551616;
  quiet : l.changed ≡ false → l.words ≡ l.fn.words;
  loud : l.changed ≡ true → ((k : ℕ) → k < length l.fn.words → bit_or (get_or l.fn.words k 0) (get_or l.other k 0) ≡ get_or l.fn.words k 0) → ⊥;
}
