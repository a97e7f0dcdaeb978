-- Paths that lead from a shape to one.
use Rattle.std.specs.Prelude.{◌≡◌, ℕ, Some, List}
use Rattle.tac_ir.specs.declared.code.Code.{Code}
use Rattle.tac_ir.specs.Places.{end_of_path}

pub record EndsSomewhere (c : Code) (s : ℕ) (path : List ℕ) : Type 0 where
  pub end : ℕ
  pub leads : end_of_path c s path ≡ Some end
