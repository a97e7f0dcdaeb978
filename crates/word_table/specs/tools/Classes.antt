-- Classes in the place of definitions.
use Rattle.std.specs.Prelude.{ℕ, ◌<◌, ◌==◌, Bool, List}
use Rattle.std.specs.List.{list_any}
use Rattle.tac_ir.specs.Module.{Module}
use Rattle.tac_ir.specs.Answers.{class_of}

-- whether a class is that of a member of a set
abbrev pub is_class_in : Module → List ℕ → ℕ → Bool
is_class_in m set class = list_any (λ d. class_of m d == class) set

-- classes have 16 bits
abbrev pub AreShort : Module → Type 0
AreShort m = (d : ℕ) → class_of m d < 65536
