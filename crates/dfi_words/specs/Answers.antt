-- An answer that is sought.
use Rattle.std.specs.Prelude.{⊤, ◌≡◌, Option, Some, None, Result, Ok, Err}
use Rattle.dfi_words.specs.declared.job.WordFault.{WordFault}
use Rattle.dfi_words.specs.declared.job.WordFault.TheVariants.{Refused, Memory}

-- An `Ok` has the property, and a refusal comes only where nothing has it. Want of memory is free.
abbrev pub AnswersTo : {X : Type 0} → (X → Type 0) → Result X WordFault → Type 0
AnswersTo P (Ok x) = P x
AnswersTo {X} P (Err Refused) = (x : X) → P x → ⊥
AnswersTo P (Err Memory) = ⊤

-- An `Ok` has the value, and a refusal comes where there is none. Want of memory is free.
abbrev pub Means : {X : Type 0} → Option X → Result X WordFault → Type 0
Means value (Ok x) = value ≡ Some x
Means value (Err Refused) = value ≡ None
Means value (Err Memory) = ⊤
