use Rattle.std.proofs.Common.{ℕ, ◌<◌, ◌∷◌, Contains, IsTrue}
use Rattle.least_rows.specs.Rules.{row_has}
use Rattle.least_rows.proofs.open.meets.Given as goal

abbrev pub invariant-loop-k : goal.invariant-loop-k
invariant-loop-k l =
    (k : ℕ) → k < l.k → ((from : ℕ) → Contains (l.first ∷ l.rest) from → IsTrue (row_has l.rows from k)) → IsTrue (row_has l.rows l.to k)
