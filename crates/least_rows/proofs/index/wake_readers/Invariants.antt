use Rattle.std.proofs.Common.{◌≡◌, ℕ, ◌<◌, IsTrue, length, get_or}
use Rattle.dfi_base.specs.Bits.{has}
use Rattle.least_rows.proofs.index.wake_readers.Given as goal

abbrev pub invariant-loop-i : goal.invariant-loop-i
invariant-loop-i l = record {
  long : length l.waiting ≡ length l.fn.waiting;
  kept : (i : ℕ) → IsTrue (has l.fn.waiting i) → IsTrue (has l.waiting i);
  woken : (n : ℕ) → n < l.i-index → IsTrue (has l.waiting (get_or l.readers n 0));
}
