use Rattle.std.proofs.Common.{◌≡◌, ◌-◌, [], Contains, length, get_or}
use Rattle.least_rows.specs.declared.rules.Rule.{Rule}
use Rattle.least_rows.specs.declared.rules.System.{System}
use Rattle.least_rows.specs.Solutions.{IsAlike}
use Rattle.least_rows.specs.tools.Growing.{IsIndexOf}
use Rattle.least_rows.proofs.Storing.{IsStoring}
use Rattle.least_rows.proofs.solver.Solver.store.Given as goal

abbrev pub invariant-loop-at : goal.invariant-loop-at
invariant-loop-at l = record {
  index : l.self.index ≡ l.fn.self.index;
  rows : length l.self.rows.items ≡ l.count;
  alike : IsAlike l.self.rows.items l.fn.self.rows.items;
  wait : length l.self.waiting ≡ length l.fn.self.waiting;
  asked : l.asked ≡ get_or l.fn.self.rows.items l.from [];
  storing : (s : System) → IsIndexOf s l.fn.self.index.readers.items l.fn.self.index.loads.items → Contains s.rules (Rule.Store l.targets l.from)
      → IsStoring s l.targets l.from l.at l.fn.self.rows.items l.fn.self.waiting l.self.rows.items l.self.waiting l.changed;
}

abbrev pub decreases-loop-at : goal.decreases-loop-at
decreases-loop-at l = l.count - l.at
