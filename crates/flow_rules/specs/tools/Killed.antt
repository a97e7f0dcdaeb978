-- The one leaf that an instruction kills.
use Rattle.std.specs.Prelude.{◌≡◌, ◌↔◌, ℕ, Option, Some}
use Rattle.tac_ir.specs.declared.code.Code.{Code}
use Rattle.tac_ir.specs.declared.code.Instr.{Instr}
use Rattle.tac_ir.specs.declared.code.Place.{Place}
use Rattle.tac_ir.specs.Nodes.{place_node}
use Rattle.flow_rules.specs.Single.{Single}
use Rattle.flow_rules.specs.Kills.{Kills}

pub record IsKilled (c : Code) (f : ℕ) (i : Instr) (killed : Option ℕ) : Type 0 where
  pub each : (a : ℕ) → Kills c f i a ↔ (killed ≡ Some a)

pub record IsKilledBySet (c : Code) (f : ℕ) (place : Place) (killed : Option ℕ) : Type 0 where
  pub each : (a : ℕ) → ((place_node c f place ≡ a) × Single c a) ↔ (killed ≡ Some a)
