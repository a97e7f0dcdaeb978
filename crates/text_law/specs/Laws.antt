-- Laws of the text of modules.
use Rattle.std.specs.Prelude.{◌≡◌, ℕ, List, ◌⊎◌}
use Rattle.tac_ir.specs.Module.{Module}
use Rattle.line_format.specs.FirstFault.{IsAt}
use Rattle.text_law.specs.ModuleText.{module_text}
use Rattle.text_law.specs.IsModule.{IsModule}
use Rattle.text_law.specs.IsText.{IsText}

-- each list of bytes is the text of a module, or has a first fault
abbrev pub TextsAreTold : Type 0
TextsAreTold = (bytes : List ℕ) → ((m : Module) × IsText bytes m) ⊎ ((at : ℕ) × IsAt IsText bytes at)

-- a text is that of one module and has no fault, and no bytes have two first faults
pub record TextsAreOne : Type 0 where
  pub one_module : (bytes : List ℕ) (m k : Module) → IsText bytes m → IsText bytes k → m ≡ k
  pub sound : (bytes : List ℕ) (m : Module) (at : ℕ) → IsText bytes m → IsAt IsText bytes at → ⊥
  pub one_fault : (bytes : List ℕ) (at other : ℕ) → IsAt IsText bytes at → IsAt IsText bytes other → at ≡ other

-- a module that has a text is the one that is read back from it
abbrev pub TextsAreReadBack : Type 0
TextsAreReadBack = (m k : Module) → IsModule m → IsText (module_text m) k → k ≡ m
