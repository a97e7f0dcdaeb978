use Rattle.std.proofs.Common.{ℕ, ◌<◌, IsTrue}
use Rattle.least_rows.specs.Rules.{row_has}
use Rattle.least_rows.proofs.open.loads.Given as goal

abbrev pub invariant-loop-r : goal.invariant-loop-r
invariant-loop-r l = (r k : ℕ) → r < l.r → IsTrue (row_has l.rows l.sources r) → IsTrue (row_has l.rows r k) → IsTrue (row_has l.rows l.to k)
