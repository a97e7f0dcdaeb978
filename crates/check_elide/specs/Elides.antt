-- A module with marks for exactly the reads that may go unchecked.
use Rattle.std.specs.Prelude.{◌≡◌, ◌↔◌, ℕ, suc, ◌<◌, Bool, true, false, Some, List, length, slice_get}
use Rattle.tac_ir.specs.Module.{Module}
use Rattle.tac_ir.specs.GoodModule.{GoodModule}
use Rattle.tac_ir.specs.Answers.{is_checked}
use Rattle.flow_rules.specs.Removed.{Removed}

-- a mark for each read, from read 1 on: whether it may go unchecked
pub record AreMarks (m : Module) (removed : List Bool) : Type 0 where
  pub count : length removed ≡ length m.sets
  pub each : (i : ℕ) → i < length removed → (slice_get removed i ≡ Some true) ↔ Removed m (suc i)

-- the same module with other marks
abbrev pub with_marks : Module → List Bool → Module
with_marks m removed = record { size = m.size; code = m.code; classes = m.classes; sets = m.sets; removed = removed; points = m.points; reach = m.reach }

-- nothing but the marks is changed, and exactly the reads that may go unchecked do
pub record Elides (m made : Module) : Type 0 where
  pub rest : made ≡ with_marks m made.removed
  pub form : GoodModule made
  pub marks : (r : ℕ) → (is_checked made r ≡ false) ↔ Removed made r
