-- Modules without a removed check.
use Rattle.std.specs.Prelude.{◌≡◌, ℕ, true}
use Rattle.tac_ir.specs.Module.{Module}
use Rattle.tac_ir.specs.Answers.{is_checked}

abbrev pub AllChecked : Module → Type 0
AllChecked m = (r : ℕ) → is_checked m r ≡ true
