-- Which instruction of which function kills what was written to which leaf before: the `set` of a single leaf, and no other.
use Rattle.std.specs.Prelude.{◌≡◌, ℕ}
use Rattle.tac_ir.specs.declared.code.Code.{Code}
use Rattle.tac_ir.specs.declared.code.Instr.{Instr}
use Rattle.tac_ir.specs.Nodes.{place_node}
use Rattle.flow_rules.specs.Single.{Single}

abbrev pub Kills : Code → ℕ → Instr → ℕ → Type 0
Kills c f (Instr.Set place x d) a = (place_node c f place ≡ a) × Single c a
Kills c f i a = ⊥
