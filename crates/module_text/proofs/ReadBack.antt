-- What is written is read.
use Rattle.std.proofs.Common.{◌≡◌, ◌⊎◌, inl, inr, ℕ, false, List, [], ◌∷◌, Result, Ok, Err, refl, ap, ◌∙◌}
use Rattle.std.specs.Prelude.{codes}
use Rattle.tac_ir.specs.declared.module.Size.{Size}
use Rattle.tac_ir.specs.Module.{Module}
use Rattle.line_format.specs.Lines.{line}
use Rattle.line_format.proofs.Firsts.{no_fault}
use Rattle.text_law.specs.ModuleText.{version}
use Rattle.text_law.specs.IsText.{IsText}
use Rattle.text_law.proofs.Whole.{one_module}
use Rattle.module_text.specs.declared.fault.TextFault.{TextFault}
use Rattle.module_text.specs.Reading.{IsTold, is_old}
use Rattle.module_text.specs.Laws.{WrittenIsRead}

-- no text of a module is of the first version
new_line : (size : Size) (rest : List ℕ) → is_old (line (codes "dfimod" ∷ version size ∷ []) rest) ≡ false
new_line Size.Small rest = refl
new_line Size.Large rest = refl

pub told_back : (bytes : List ℕ) (m : Module) (result : Result Module TextFault) → IsText bytes m → IsTold bytes result → (result ≡ Ok m) ⊎ (result ≡ Err TextFault.Memory)
told_back bytes m (Ok k) text told = inl (ap (λ z. Ok z) (one_module bytes k m told text))
told_back bytes m (Err (TextFault.At at)) text told = absurd (no_fault IsText bytes m at text told)
told_back bytes m (Err TextFault.Memory) text told = inr refl
told_back bytes m (Err TextFault.Long) text told = absurd told
told_back bytes m (Err (TextFault.Version found)) text told = absurd told

pub read_back : WrittenIsRead
read_back bytes m result text short reading =
    told_back bytes m result text (reading.other short (ap is_old text.1 ∙ new_line m.size _))
