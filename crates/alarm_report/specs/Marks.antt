-- Marks of numbers.
use Rattle.std.specs.Prelude.{◌≡◌, ℕ, ◌<◌, Bool, false, List, length, slice_index_or}
use Rattle.tac_ir.specs.Answers.{has}

-- these say of each number below n whether it is in a list
pub record AreMarks (marks : List Bool) (n : ℕ) (numbers : List ℕ) : Type 0 where
  pub count : length marks ≡ n
  pub each : (k : ℕ) → k < n → slice_index_or marks k false ≡ has numbers k
