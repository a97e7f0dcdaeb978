-- Lists of the numbers that have a property.
use Rattle.std.specs.Prelude.{◌≡◌, ◌↔◌, ℕ, suc, ◌<◌, ◌≤◌, true, List, [], length, slice_index_or}
use Rattle.tac_ir.specs.Answers.{has}
use Rattle.def_classes.specs.tools.Readers.{Ascends}

-- the numbers from 1 to n that have it, ascending
pub record IsListOf (P : ℕ → Type 0) (n : ℕ) (list : List ℕ) : Type 0 where
  pub order : Ascends 1 (suc n) list
  pub each : (d : ℕ) → (has list d ≡ true) ↔ ((1 ≤ d) × (d ≤ n) × P d)

-- such a list for each number from 1 to count
pub record AreListsOf (P : ℕ → ℕ → Type 0) (count n : ℕ) (lists : List (List ℕ)) : Type 0 where
  pub count_is : length lists ≡ count
  pub lists_are : (k : ℕ) → k < count → IsListOf (P (suc k)) n (slice_index_or lists k [])
