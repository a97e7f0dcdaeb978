-- Paths of fields.
use Rattle.std.specs.Prelude.{◌≡◌, ℕ, Some, List}
use Rattle.tac_ir.specs.declared.code.Code.{Code}
use Rattle.tac_ir.specs.Places.{end_of_path}

-- each field of the path is a part of a struct, from this shape on
abbrev pub LeadsTo : Code → ℕ → List ℕ → Type 0
LeadsTo c s path = (e : ℕ) × (end_of_path c s path ≡ Some e)
