-- An answer of a part of the check, compared with what is judged of that part. A tool of proof: no public clause names it.
use Rattle.std.specs.Prelude.{◌≡◌, ◌≢◌, Bool, true, false, ◌&&◌, ◌||◌, nat_eq, nat_lt, nat_le, List, [], ◌∷◌, Option, Some, None, Result, Ok, Err}
use Rattle.dfi_base.specs.declared.numbers.Line.{Line}
use Rattle.c_typed.specs.declared.fault.TypeFault.{TypeFault}
use Rattle.c_typed.specs.Faults.{Rule, Fault, order, told, told_by}
use Rattle.c_typed.specs.Parts.{Judged}

abbrev pub precedes : Fault → Fault → Bool
precedes f g = nat_lt f.at g.at || nat_eq f.at g.at && nat_le (order f.rule) (order g.rule)

abbrev pub earlier : Fault → Option Fault → Option Fault
earlier f None = Some f
earlier f (Some g) = elim (precedes f g) [ true ↦ Some f | false ↦ Some g ]

-- the fault that is told
abbrev pub least : List Fault → Option Fault
least [] = None
least (f ∷ fs) = earlier f (least fs)

-- a part that is not whole, and the fault that is told of it
pub record Refuses {A : Type 0} (j : Judged A) (e : TypeFault) : Type 0 where
  pub fault : Fault
  pub first : least j.faults ≡ Some fault
  pub told : e ≡ told fault
  pub broken : j.value ≡ None

-- it is whole, or this is its first fault; want of memory is free
abbrev pub Answers : {A : Type 0} → Judged A → Result A TypeFault → Type 0
Answers {A} j (Ok a) = (j.faults ≡ []) × (j.value ≡ Some a)
Answers {A} j (Err e) = e ≢ TypeFault.Memory → Refuses j e

-- what a rule makes of parts that are whole
abbrev pub Rules : {B : Type 0} → Rule → Line → Option B → Result B TypeFault → Type 0
Rules {B} rule line kept (Ok b) = kept ≡ Some b
Rules {B} rule line kept (Err e) = e ≢ TypeFault.Memory → (kept ≡ None) × (e ≡ told_by rule line)
