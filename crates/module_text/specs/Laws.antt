-- A law of writing and reading.
use Rattle.std.specs.Prelude.{◌≡◌, ◌≤◌, ◌⊎◌, ℕ, List, length, Result, Ok, Err}
use Rattle.dfi_base.specs.Limits.{file_limit}
use Rattle.tac_ir.specs.Module.{Module}
use Rattle.text_law.specs.IsText.{IsText}
use Rattle.module_text.specs.declared.fault.TextFault.{TextFault}
use Rattle.module_text.specs.Reading.{IsReading}

-- what reading the text of a module answers, where the text is no longer than the limit, is the module or want of memory
abbrev pub WrittenIsRead : Type 0
WrittenIsRead = (bytes : List ℕ) (m : Module) (result : Result Module TextFault) → IsText bytes m → length bytes ≤ file_limit → IsReading bytes result
    → (result ≡ Ok m) ⊎ (result ≡ Err TextFault.Memory)
