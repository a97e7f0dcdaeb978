use Rattle.std.proofs.Common.{◌≡◌, ℕ, ◌-◌, ◌<◌, false, length}
use Rattle.dfi_base.specs.Bits.{has}
use Rattle.least_rows.specs.tools.Growing.{IsGrown, IsReady}
use Rattle.least_rows.proofs.solver.Solver.sweep.Given as goal

abbrev pub invariant-loop-at : goal.invariant-loop-at
invariant-loop-at l = record {
  ready : IsReady l.system l.self.rows.items l.self.waiting l.self.index.readers.items l.self.index.loads.items l.asked l.empty;
  grown : IsGrown l.system (length l.system.rules) l.fn.self.rows.items l.fn.self.waiting l.self.rows.items l.self.waiting l.changed;
  passed : l.changed ≡ false → (k : ℕ) → k < l.at → has l.self.waiting k ≡ false;
}

abbrev pub decreases-loop-at : goal.decreases-loop-at
decreases-loop-at l = l.count - l.at
