use Rattle.std.proofs.Common.{◌≡◌, ℕ, ◌∷◌, ◌↔◌, Contains, IsTrue, length, take}
use Rattle.dfi_base.specs.Bits.{has}
use Rattle.least_rows.specs.Rules.{row_has}
use Rattle.least_rows.proofs.gather.gather_meet.Given as goal

abbrev pub invariant-loop-from : goal.invariant-loop-from
invariant-loop-from l = record {
  long : length l.asked ≡ length l.fn.asked;
  asked : (k : ℕ) → IsTrue (has l.asked k) ↔ ((from : ℕ) → Contains (l.first ∷ take l.from-index l.rest) from → IsTrue (row_has l.rows from k));
}
