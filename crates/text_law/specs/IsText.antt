-- Bytes that are the text of a module.
use Rattle.std.specs.Prelude.{◌≡◌, ℕ, List}
use Rattle.tac_ir.specs.Module.{Module}
use Rattle.text_law.specs.ModuleText.{module_text}
use Rattle.text_law.specs.IsModule.{IsModule}

abbrev pub IsText : List ℕ → Module → Type 0
IsText bytes m = IsModule m × (bytes ≡ module_text m)
