-- The classes of a module.
use Rattle.std.specs.Prelude.{◌≡◌, ℕ, length}
use Rattle.tac_ir.specs.Module.{Module}
use Rattle.tac_ir.specs.Numbers.{defs_in_code}
use Rattle.tac_ir.specs.Answers.{class_of}
use Rattle.tac_ir.specs.Tables.{IsNumberOf}
use Rattle.flow_rules.specs.ClassOf.{ClassOf}

-- each definition has a class: that of the sets of the module
pub record HasClasses (m : Module) : Type 0 where
  pub count : length m.classes ≡ defs_in_code m.code
  pub each : (d : ℕ) → IsNumberOf m d → ClassOf m.sets d (class_of m d)
