use Rattle.std.proofs.Common.{◌≡◌, ℕ, ◌+◌, ◌*◌, ◌<◌, length}
use Rattle.std.specs.Prelude.{slice_index_or}
use Rattle.word_table.proofs.stripe.picked.Given as goal

abbrev pub invariant-loop-k : goal.invariant-loop-k
invariant-loop-k g l =
    (length l.picked.items ≡ l.k)
    × ((j : ℕ) (d : _) → j < l.k → slice_index_or l.picked.items j d ≡ slice_index_or l.cells (j * l.step + l.first) d)
