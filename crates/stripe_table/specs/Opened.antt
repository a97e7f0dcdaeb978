-- A memory before its first step.
use Rattle.std.specs.Prelude.{◌≡◌, ℕ, ℤ, List}
use Rattle.tac_ir.specs.Module.{Module}
use Rattle.stripe_table.specs.declared.memory.SharedMem.{SharedMem}
use Rattle.stripe_table.specs.Passes.{plan_of}

-- what the memory was made for
abbrev pub IsFor : Module → List ℤ → ℕ → ℕ → SharedMem → Type 0
IsFor m input stripes budget mem = plan_of mem ≡ record { md = m; input = input; stripes = stripes; budget = budget }
