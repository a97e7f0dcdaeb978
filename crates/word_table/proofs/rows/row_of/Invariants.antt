use Rattle.std.proofs.Common.{◌≡◌, ℕ, ◌||◌, drop, length}
use Rattle.word_table.specs.tools.Classes.{is_class_in}
use Rattle.word_table.specs.tools.BitRows.{has_bit}
use Rattle.word_table.proofs.rows.row_of.Given as goal

abbrev pub invariant-loop-def : goal.invariant-loop-def
invariant-loop-def l =
    (length l.row.words.items ≡ l.width)
    × ((c : ℕ) → (has_bit l.row.words.items c || is_class_in l.m (drop l.def-index l.set) c) ≡ is_class_in l.m l.set c)
