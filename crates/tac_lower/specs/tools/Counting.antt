-- Counts that stop at the greatest `u32`. (A tool of proof: no public clause names it.)
use Rattle.std.specs.Prelude.{◌≡◌, ℕ, ◌-◌, ◌^◌, min, Bool, true, false, List, reverse, slice_index}
use Rattle.tac_ir.specs.declared.code.Shape.{Shape}
use Rattle.tac_ir.specs.declared.code.Instr.{Instr}
use Rattle.tac_ir.specs.Counts.{nodes_in}
use Rattle.tac_lower.specs.Limits.{Share}

abbrev pub capped : ℕ → ℕ
capped n = min n (2 ^ 32 - 1)

abbrev pub capped_share : Share → Share
capped_share s = record { count = capped s.count; line = s.line }

-- the nodes of each shape
abbrev pub AreNodes : List Shape → List ℕ → Type 0
AreNodes shapes nodes = (s : ℕ) → slice_index nodes s ≡ capped (nodes_in (reverse shapes) s)

abbrev pub is_def : Instr → Bool
is_def (Instr.Set place a def) = true
is_def (Instr.Store a b def) = true
is_def (Instr.Call to f def args) = true
is_def i = false
