use Rattle.std.proofs.Common.{◌≡◌, ℕ, ◌+◌, ◌*◌, false, length, if◌then◌else◌}
use Rattle.dfi_base.specs.Bits.{has}
use Rattle.least_rows.specs.Rules.{Table}
use Rattle.least_rows.specs.Solutions.{IsAlike, IsAbove}
use Rattle.least_rows.specs.tools.Growing.{gaps, IsSound, IsSettled, IsReady}
use Rattle.least_rows.proofs.solver.Solver.settle.Given as goal

abbrev pub invariant-loop-changed : goal.invariant-loop-changed
invariant-loop-changed l = record {
  ready : IsReady l.system l.self.rows.items l.self.waiting l.self.index.readers.items l.self.index.loads.items l.asked l.empty;
  alike : IsAlike l.self.rows.items l.fn.self.rows.items;
  above : IsAbove l.fn.self.rows.items l.self.rows.items;
  sound : (start : Table) → length start ≡ length l.fn.self.rows.items → IsSound l.system start l.fn.self.rows.items → IsSound l.system start l.self.rows.items;
  settled : IsSettled l.system (length l.system.rules) l.self.rows.items l.self.waiting;
  idle : l.changed ≡ false → (i : ℕ) → has l.self.waiting i ≡ false;
}

abbrev pub decreases-loop-changed : goal.decreases-loop-changed
decreases-loop-changed l = 2 * gaps l.self.rows.items + (if l.changed then 1 else 0)
