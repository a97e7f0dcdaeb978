use Rattle.std.proofs.Common.{ℕ, ◌<◌, IsTrue}
use Rattle.least_rows.specs.Rules.{row_has}
use Rattle.least_rows.proofs.open.stores.Given as goal

abbrev pub invariant-loop-r : goal.invariant-loop-r
invariant-loop-r l = (r k : ℕ) → r < l.r → IsTrue (row_has l.rows l.targets r) → IsTrue (row_has l.rows l.from k) → IsTrue (row_has l.rows r k)
