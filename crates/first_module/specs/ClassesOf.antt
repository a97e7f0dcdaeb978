-- The classes of definitions: those with the same readers share a class.
use Rattle.std.specs.Prelude.{ℕ, suc, true, false, Bool, nat_eq, List, [], ◌∷◌, map}
use Rattle.std.specs.List.{range_with_len}
use Rattle.std.specs.Cmp.Lexicographic.{pointwise}
use Rattle.tac_ir.specs.Answers.{has}
use Rattle.first_module.specs.EachOnce.{each_once, place_of}

-- the reads, numbered from r on, that have definition d in their sets
abbrev pub readers_from : ℕ → List (List ℕ) → ℕ → List ℕ
readers_from r [] d = []
readers_from r (set ∷ sets) d = elim (has set d) [ true ↦ r ∷ readers_from (suc r) sets d | false ↦ readers_from (suc r) sets d ]

-- the reads that have definition d in their sets
abbrev pub readers_of : List (List ℕ) → ℕ → List ℕ
readers_of sets d = readers_from 1 sets d

-- whether two lists have the same members at the same places
abbrev pub same_list : List ℕ → List ℕ → Bool
same_list = pointwise nat_eq

-- the classes of definitions 1 and on, so many of them: numbered from 1 by the least definition of each
abbrev pub classes_of : List (List ℕ) → ℕ → List ℕ
classes_of sets definitions =
    let rows = map (readers_of sets) (range_with_len 1 definitions) in
    map (λ row. suc (place_of same_list (each_once same_list rows) row)) rows
