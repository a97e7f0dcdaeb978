use Rattle.std.proofs.Common.{ℕ, ◌<◌, IsTrue}
use Rattle.least_rows.specs.Rules.{row_has, IsMoved}
use Rattle.least_rows.proofs.open.moves.Given as goal

abbrev pub invariant-loop-k : goal.invariant-loop-k
invariant-loop-k l = (k : ℕ) → k < l.k → IsMoved l.rows l.masks l.from l.mask l.by k → IsTrue (row_has l.rows l.to k)
