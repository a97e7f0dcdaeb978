-- The readers of all definitions, kept as a list.
use Rattle.std.specs.Prelude.{◌≡◌, ℕ, suc, ◌<◌, ◌≤◌, List, [], ◌∷◌, ◌++◌, length, slice_index_or, if◌then◌else◌}
use Rattle.tac_ir.specs.Answers.{has}
use Rattle.first_module.specs.ClassesOf.{readers_of}

-- ascending numbers from low on, below high
abbrev pub Ascends : ℕ → ℕ → List ℕ → Type 0
Ascends low high [] = Unit {0}
Ascends low high (x ∷ xs) = (low ≤ x) × (x < high) × Ascends (suc x) high xs

-- the read is added to the rows of the definitions in its set, and other rows stay
abbrev pub AddsReader : List ℕ → ℕ → List (List ℕ) → List (List ℕ) → Type 0
AddsReader set read old new =
    (k : ℕ) → k < length old → slice_index_or new k [] ≡ slice_index_or old k [] ++ (if has set (suc k) then read ∷ [] else [])

-- the list has the readers of each definition, by these sets
pub record HasReaders (definitions : ℕ) (sets : List (List ℕ)) (rows : List (List ℕ)) : Type 0 where
  pub count : length rows ≡ definitions
  pub each : (k : ℕ) → k < definitions → slice_index_or rows k [] ≡ readers_of sets (suc k)
