-- The sets of a module.
use Rattle.std.specs.Prelude.{◌≡◌, ◌↔◌, ℕ, true, length}
use Rattle.tac_ir.specs.Module.{Module}
use Rattle.tac_ir.specs.Numbers.{reads_made}
use Rattle.tac_ir.specs.Answers.{has, set_of}
use Rattle.flow_rules.specs.Tables.{reach_in}
use Rattle.flow_rules.specs.Touches.{touches}
use Rattle.flow_rules.specs.InSet.{InSet}

-- each read has a set: that of its definitions by the tables of the module
pub record HasSets (m : Module) : Type 0 where
  pub count : length m.sets ≡ length (reads_made m.code)
  pub each : (r d : ℕ) → (has (set_of m r) d ≡ true) ↔ InSet m.code (touches m.code m.points) (reach_in m) r d
