-- The reads that have each definition in their sets, kept as a list of rows.
use Rattle.std.specs.Prelude.{◌≡◌, ℕ, suc, ◌-◌, ◌<◌, ◌≤◌, Bool, true, false, nat_eq, List, [], ◌∷◌, ◌++◌, length, slice_index_or, if◌then◌else◌}
use Rattle.std.specs.Cmp.Lexicographic.{pointwise}
use Rattle.tac_ir.specs.Answers.{has}

-- the reads, numbered from r on, that have definition d in their sets
abbrev pub readers_from : ℕ → List (List ℕ) → ℕ → List ℕ
readers_from r [] d = []
readers_from r (set ∷ sets) d = elim (has set d) [ true ↦ r ∷ readers_from (suc r) sets d | false ↦ readers_from (suc r) sets d ]

-- the reads that have definition d in their sets
abbrev pub readers_of : List (List ℕ) → ℕ → List ℕ
readers_of sets d = readers_from 1 sets d

-- whether two lists have the same members at the same places
abbrev pub same_list : List ℕ → List ℕ → Bool
same_list = pointwise nat_eq

-- ascending numbers from low on, below high
abbrev pub Ascends : ℕ → ℕ → List ℕ → Type 0
Ascends low high [] = Unit {0}
Ascends low high (x ∷ xs) = (low ≤ x) × (x < high) × Ascends (suc x) high xs

-- whether a row ends in a read
abbrev pub ends_in : List ℕ → ℕ → Bool
ends_in row read = nat_eq (slice_index_or row (length row - 1) 0) read

-- the row, with the read behind it unless it ends in it
abbrev pub with_last : List ℕ → ℕ → List ℕ
with_last row read = if ends_in row read then row else row ++ read ∷ []

-- the read is added to the rows of the definitions in its set, and other rows stay
abbrev pub AddsReader : List ℕ → ℕ → List (List ℕ) → List (List ℕ) → Type 0
AddsReader set read old new =
    (k : ℕ) → k < length old → slice_index_or new k [] ≡ slice_index_or old k [] ++ (if has set (suc k) then read ∷ [] else [])

-- the list has the readers of each definition, by these sets
pub record HasReaders (definitions : ℕ) (sets : List (List ℕ)) (rows : List (List ℕ)) : Type 0 where
  pub count : length rows ≡ definitions
  pub each : (k : ℕ) → k < definitions → slice_index_or rows k [] ≡ readers_of sets (suc k)
