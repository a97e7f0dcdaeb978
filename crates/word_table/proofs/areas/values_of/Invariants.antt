use Rattle.std.proofs.Common.{◌≡◌, ◌+◌, ◌++◌, drop, length, replicate}
use Rattle.word_table.specs.tools.Areas.{cells_of, area_words}
use Rattle.word_table.proofs.areas.values_of.Given as goal

abbrev pub invariant-loop-area : goal.invariant-loop-area
invariant-loop-area l =
    (l.cells.items ++ cells_of (λ a. a.value) (drop l.area-index l.areas) ≡ replicate 16 0 ++ cells_of (λ a. a.value) l.areas)
    × (length l.cells.items + area_words (drop l.area-index l.areas) ≡ 16 + area_words l.areas)
