-- What is known behind a walk of several steps.
use Rattle.std.proofs.Common.{◌≡◌, ◌≢◌, Ok, Err, ap, sym, ◌∙◌, subst}
use Rattle.c_typed.specs.declared.fault.TypeFault.{TypeFault}
use Rattle.c_types.specs.tools.Steps.{Found, ◌>>=◌, Leaves}

-- an answer that tells a fault leaves nothing to be known
pub told_leaves : {A K : Type 0} (r : Found A) (known : K) (found : Found (A × K)) (e : TypeFault) → r ≡ Err e → (e ≢ TypeFault.Memory → found ≡ Err e) → Leaves r known found
told_leaves r known found e is told = subst (λ r. Leaves r known found) (sym is) told

pub first_told : {A B : Type 0} (f : Found A) (g : A → Found B) (e : TypeFault) → (e ≢ TypeFault.Memory → f ≡ Err e) → e ≢ TypeFault.Memory → (f >>= g) ≡ Err e
first_told f g e is = λ wanted. ap (λ f. f >>= g) (is wanted)

pub then_told : {A B : Type 0} (f : Found A) (g : A → Found B) (a : A) (e : TypeFault) → f ≡ Ok a → (e ≢ TypeFault.Memory → g a ≡ Err e) → e ≢ TypeFault.Memory → (f >>= g) ≡ Err e
then_told f g a e is told = λ wanted. ap (λ f. f >>= g) is ∙ told wanted

pub as_told : {A : Type 0} (x y : Found A) (e : TypeFault) → x ≡ y → (e ≢ TypeFault.Memory → y ≡ Err e) → e ≢ TypeFault.Memory → x ≡ Err e
as_told x y e is told = λ wanted. is ∙ told wanted

abbrev IsOk : {A : Type 0} → Found A → Type 0
IsOk (Ok a) = Unit {0}
IsOk (Err e) = ⊥

-- what only wants memory tells nothing else
pub never_told : {A B : Type 0} (a : A) (e : TypeFault) (found : Found B) → (e ≢ TypeFault.Memory → Ok a ≡ Err e) → e ≢ TypeFault.Memory → found ≡ Err e
never_told {A} a e found is = λ wanted. absurd (subst (IsOk {A = A}) (is wanted) tt)
