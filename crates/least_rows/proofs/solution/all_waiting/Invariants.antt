use Rattle.std.proofs.Common.{◌≡◌, ℕ, ◌<◌, IsTrue, length}
use Rattle.dfi_base.specs.Bits.{has}
use Rattle.least_rows.proofs.solution.all_waiting.Given as goal

abbrev pub invariant-loop-i : goal.invariant-loop-i
invariant-loop-i l = record {
  long : length l.waiting ≡ l.count;
  all : (k : ℕ) → k < l.i → IsTrue (has l.waiting k);
}
