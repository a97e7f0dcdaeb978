-- What a run asks of a module's tables, so that a class in the place of a definition decides each read.
use Rattle.std.specs.Prelude.{◌≡◌, ℕ, ◌≤◌, true, length, All}
use Rattle.tac_ir.specs.Module.{Module}
use Rattle.tac_ir.specs.Numbers.{defs_in_code}
use Rattle.tac_ir.specs.GoodForm.{GoodForm}
use Rattle.tac_ir.specs.Answers.{has, set_of, class_of}

-- a number from 1 to the number of definitions
abbrev pub IsNumberOf : Module → ℕ → Type 0
IsNumberOf m n = (1 ≤ n) × (n ≤ defs_in_code m.code)

-- each definition has a class, classes are from 1 to the number of definitions, and sets have definitions alone
pub record HasGoodTables (m : Module) : Type 0 where
  pub count : length m.classes ≡ defs_in_code m.code
  pub classes : All (IsNumberOf m) m.classes
  pub sets : All (All (IsNumberOf m)) m.sets

-- no definition outside the set of a read has the class of a member of it
abbrev pub AreSeparate : Module → Type 0
AreSeparate m = (r d e : ℕ) → IsNumberOf m d → has (set_of m r) e ≡ true → class_of m d ≡ class_of m e → has (set_of m r) d ≡ true

-- what a run asks of its module: its form is good, and classes tell the members of sets from other definitions
pub record CanRun (m : Module) : Type 0 where
  pub form : GoodForm m.code
  pub tables : HasGoodTables m
  pub separate : AreSeparate m
