use Rattle.std.proofs.Common.{ℕ, ◌<◌, get_or, IsTrue}
use Rattle.least_rows.specs.Rules.{row_has}
use Rattle.least_rows.proofs.open.meet_has.Given as goal

abbrev pub invariant-loop-from : goal.invariant-loop-from
invariant-loop-from l = (n : ℕ) → n < l.from-index → IsTrue (row_has l.rows (get_or l.rest n 0) l.k)
