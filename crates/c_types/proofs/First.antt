-- The fault that a check tells is the first of all.
use Rattle.std.proofs.Common.{◌≡◌, ℕ, zero, suc, ◌<◌, Bool, true, false, List, [], ◌∷◌, length, slice_index_or, Option, Some, None, refl, sym, ◌∙◌, subst, arith}
use Rattle.std.specs.Prelude.{nat_lt}
use Rattle.std.specs.List.{Contains}
use Rattle.std.proofs.lemmas.Bool.Decides.{nat_tests}
use Rattle.c_typed.specs.Faults.{Fault, Precedes, earlier, together, IsFirst}
use Rattle.c_types.specs.tools.Answers.{precedes, least}
use Rattle.c_types.specs.tools.Answers as answers

precedes_is : (f g : Fault) → precedes f g ≡ true → Precedes f g
precedes_is f g is = by_place (nat_lt f.at g.at) refl where
  by_place : (b : Bool) → nat_lt f.at g.at ≡ b → Precedes f g
  by_place true less = earlier (grind (arith, nat_tests, less))
  by_place false less = together (grind (arith, nat_tests, less, is)) (grind (arith, nat_tests, less, is))

otherwise_is : (f g : Fault) → precedes f g ≡ false → Precedes g f
otherwise_is f g is = by_place (nat_lt g.at f.at) refl where
  by_place : (b : Bool) → nat_lt g.at f.at ≡ b → Precedes g f
  by_place true less = earlier (grind (arith, nat_tests, less))
  by_place false less = together (grind (arith, nat_tests, less, is)) (grind (arith, nat_tests, less, is))

then_before : (f g h : Fault) → Precedes f g → Precedes g h → Precedes f h
then_before f g h (earlier a) (earlier b) = earlier (omega (arith, a, b))
then_before f g h (earlier a) (together b c) = earlier (omega (arith, a, b))
then_before f g h (together a b) (earlier c) = earlier (omega (arith, a, c))
then_before f g h (together a b) (together c d) = together (a ∙ c) (omega (arith, b, d))

before_itself : (f : Fault) → Precedes f f
before_itself f = together refl (omega arith)

abbrev Leads : Fault → List Fault → Type 0
Leads f [] = Unit {0}
Leads f (g ∷ gs) = Precedes f g × Leads f gs

leads_too : (f g : Fault) (fs : List Fault) → Precedes f g → Leads g fs → Leads f fs
leads_too f g [] is all = tt
leads_too f g (h ∷ hs) is all = (then_before f g h is all.0, leads_too f g hs is all.1)

-- in the list, and before each of it
record Least (f : Fault) (fs : List Fault) : Type 0 where
  member : Contains fs f
  leads : Leads f fs

here : (f : Fault) (fs : List Fault) → Contains (f ∷ fs) f
here f fs = (0, omega arith, refl)

there : (f g : Fault) (fs : List Fault) → Contains fs f → Contains (g ∷ fs) f
there f g fs is = (suc is.0, omega (arith, is.1), is.2)

chosen : (f g h : Fault) (fs : List Fault) (b : Bool) → precedes f g ≡ b → Least g fs → elim b [ true ↦ Some f | false ↦ Some g ] ≡ Some h → Least h (f ∷ fs)
chosen f g h fs true is least_g e =
    subst (λ o. IfLeast o) e (record { member = here f fs; leads = (before_itself f, leads_too f g fs (precedes_is f g is) least_g.leads) }) where
      IfLeast : Option Fault → Type 0
      IfLeast None = Unit {0}
      IfLeast (Some h) = Least h (f ∷ fs)
chosen f g h fs false is least_g e =
    subst (λ o. IfLeast o) e (record { member = there g f fs least_g.member; leads = (otherwise_is f g is, least_g.leads) }) where
      IfLeast : Option Fault → Type 0
      IfLeast None = Unit {0}
      IfLeast (Some h) = Least h (f ∷ fs)

abbrev IsThere : {A : Type 0} → Option A → Type 0
IsThere None = ⊥
IsThere (Some a) = Unit {0}

some_none : {A : Type 0} (a : A) → Some a ≡ None → ⊥
some_none a e = subst IsThere e tt

abbrev pick : Fault → Fault → Bool → Option Fault
pick f g b = elim b [ true ↦ Some f | false ↦ Some g ]

picked : (f g : Fault) (b : Bool) → pick f g b ≡ None → ⊥
picked f g true e = some_none f e
picked f g false e = some_none g e

never_none : (f : Fault) (o : Option Fault) → answers.earlier f o ≡ None → ⊥
never_none f None e = some_none f e
never_none f (Some g) e = picked f g (precedes f g) e

alone : (f h : Fault) (gs : List Fault) → least gs ≡ None → Some f ≡ Some h → Least h (f ∷ gs)
alone f h (g ∷ gs) none e = absurd (never_none g (least gs) none)
alone f h [] none e =
    subst (λ o. IfLeast o) e (record { member = here f []; leads = (before_itself f, tt) }) where
      IfLeast : Option Fault → Type 0
      IfLeast None = Unit {0}
      IfLeast (Some h) = Least h (f ∷ [])

by_rest : (g f : Fault) (gs : List Fault) (o : Option Fault) → ((h : Fault) → least gs ≡ Some h → Least h gs) → least gs ≡ o → answers.earlier g o ≡ Some f → Least f (g ∷ gs)
by_rest g f gs None rest is e = alone g f gs is e
by_rest g f gs (Some h) rest is e = chosen g h f gs (precedes g h) refl (rest h is) e

least_is : (fs : List Fault) (f : Fault) → least fs ≡ Some f → Least f fs
least_is [] f e = absurd (some_none f (sym e))
least_is (g ∷ gs) f e = by_rest g f gs (least gs) (least_is gs) refl e

leads_at : (f : Fault) (fs : List Fault) (k : ℕ) (d : Fault) → k < length fs → Leads f fs → Precedes f (slice_index_or fs k d)
leads_at f [] k d less all = absurd (omega (arith, less))
leads_at f (g ∷ gs) zero d less all = all.0
leads_at f (g ∷ gs) (suc k) d less all = leads_at f gs k d (omega (arith, less)) all.1

pub least_is_first : (fs : List Fault) (f : Fault) → least fs ≡ Some f → IsFirst f fs
least_is_first fs f e =
    let is = least_is fs f e in
    record { broken = is.member; first = λ g has. subst (λ h. Precedes f h) has.2 (leads_at f fs has.0 g has.1 is.leads) }
