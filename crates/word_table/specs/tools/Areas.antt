-- The words before the first step, as lists: a tool of proof.
use Rattle.std.specs.Prelude.{ℕ, suc, ◌-◌, ◌+◌, List, [], ◌∷◌, ◌++◌, replicate, slice_index, map, sum}
use Rattle.std.specs.List.{flat_map}
use Rattle.tac_ir.specs.declared.code.Global.{Global}
use Rattle.tac_ir.specs.Module.{Module}
use Rattle.tac_ir.specs.Words.{word_of}
use Rattle.tac_ir.specs.Answers.{class_of}
use Rattle.word_table.specs.declared.areas.Area.{Area}

-- the words of a global with this starting definition
abbrev pub area_at : List ℕ → Module → ℕ → Global → Area
area_at sizes m d x = record { words = slice_index sizes x.shape; value = word_of x.start; class = class_of m d }

-- the words of these globals, the first of which has number g
abbrev pub areas_from : List ℕ → Module → ℕ → List Global → List Area
areas_from sizes m g [] = []
areas_from sizes m g (x ∷ globals) = area_at sizes m (suc g) x ∷ areas_from sizes m (suc g) globals

-- what each word of these areas holds
abbrev pub cells_of : (Area → ℕ) → List Area → List ℕ
cells_of held areas = flat_map (λ a. replicate a.words (held a)) areas

abbrev pub area_words : List Area → ℕ
area_words areas = sum (map (λ a. a.words) areas)

-- 16 words, the areas, and as many words more as a memory of this size has
abbrev pub memory_of : (Area → ℕ) → ℕ → List Area → List ℕ
memory_of held size areas = (replicate 16 0 ++ cells_of held areas) ++ replicate (size - (16 + area_words areas)) 0
