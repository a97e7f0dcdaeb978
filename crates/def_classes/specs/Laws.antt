-- Laws of classes.
use Rattle.std.specs.Prelude.{◌≡◌, ◌↔◌, ℕ, true, map}
use Rattle.tac_ir.specs.Module.{Module}
use Rattle.tac_ir.specs.Answers.{class_of, has, set_of}
use Rattle.tac_ir.specs.Tables.{IsNumberOf}
use Rattle.flow_rules.specs.HasClasses.{HasClasses}

-- A definition is in the set of a read just where its class is among those of the members.
abbrev pub ClassesTellSets : Type 0
ClassesTellSets = (m : Module) → HasClasses m → (r d : ℕ) → IsNumberOf m d → (has (map (class_of m) (set_of m r)) (class_of m d) ≡ true) ↔ (has (set_of m r) d ≡ true)
