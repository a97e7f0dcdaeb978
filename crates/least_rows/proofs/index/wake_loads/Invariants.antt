use Rattle.std.proofs.Common.{◌≡◌, ℕ, IsTrue, Contains, length, take}
use Rattle.dfi_base.specs.Bits.{has}
use Rattle.least_rows.specs.Rules.{row_has}
use Rattle.least_rows.proofs.index.wake_loads.Given as goal

abbrev pub invariant-loop-load : goal.invariant-loop-load
invariant-loop-load l = record {
  long : length l.waiting ≡ length l.fn.waiting;
  kept : (i : ℕ) → IsTrue (has l.fn.waiting i) → IsTrue (has l.waiting i);
  woken : (i sources : ℕ) → Contains (take l.load-index l.loads) (record { rule = i; sources = sources }) → IsTrue (row_has l.rows sources l.row) → IsTrue (has l.waiting i);
}
