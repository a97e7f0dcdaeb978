use Rattle.std.proofs.Common.{◌≡◌, ℕ, ◌-◌, ◌<◌, ◌↔◌, IsTrue, length}
use Rattle.dfi_base.specs.Bits.{has}
use Rattle.least_rows.specs.Rules.{row_has}
use Rattle.least_rows.proofs.gather.gather_loads.Given as goal

abbrev pub invariant-loop-at : goal.invariant-loop-at
invariant-loop-at l = record {
  long : length l.asked ≡ length l.fn.asked;
  asked : (k : ℕ) → IsTrue (has l.asked k) ↔ ((from : ℕ) × (from < l.at) × IsTrue (row_has l.rows l.sources from) × IsTrue (row_has l.rows from k));
}

abbrev pub decreases-loop-at : goal.decreases-loop-at
decreases-loop-at l = l.width - l.at
