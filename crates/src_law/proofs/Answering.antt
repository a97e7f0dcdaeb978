-- A valid answer is of the kind that its event has.
use Rattle.std.proofs.Common.{◌≡◌, ℕ, Bool, true, false, not, List, refl, subst, Option, Some, None}
use Rattle.obj_mem.specs.declared.value.Value.{Value}
use Rattle.obj_mem.specs.declared.event.Event.{Event}
use Rattle.obj_mem.specs.declared.event.SrcAnswer.{SrcAnswer}
use Rattle.obj_mem.specs.declared.event.Stamp.{Stamp}
use Rattle.obj_mem.specs.Objects.{of_main}
use Rattle.obj_mem.specs.Written.{last_value}
use Rattle.obj_mem.specs.Valid.{answer_of, where_so, the_value, number, differs_or_not, is_usable, read_at, write_at, compared, freed}
use Rattle.src_law.proofs.First.{is_unit, is_value, is_frame, is_fit}

fit_where : (t : Bool) (f : SrcAnswer → Bool) (a : SrcAnswer) (x : SrcAnswer) → f a ≡ true → where_so t a ≡ Some x → f x ≡ true
fit_where true f a x fits is = (let same : a ≡ x = cc in subst (λ z. f z ≡ true) same fits)
fit_where false f a x fits is = cc

fit_known : (f : SrcAnswer → Bool) (a x : SrcAnswer) → f a ≡ true → Some a ≡ Some x → f x ≡ true
fit_known f a x fits is = (let same : a ≡ x = cc in subst (λ z. f z ≡ true) same fits)

read_fits : (h : List Stamp) (p : Value) (x : SrcAnswer) → read_at h p ≡ Some x → is_value x ≡ true
read_fits h (Value.Int k) x is = cc
read_fits h Value.Null x is = cc
read_fits h (Value.Ptr o place lo hi) x is = go (is_usable h o place lo hi) is
  where
    found : (v : Option Value) → the_value v ≡ Some x → is_value x ≡ true
    found None same = cc
    found (Some v) same = fit_known is_value (SrcAnswer.Value v) x refl same

    go : (t : Bool) → elim t as (λ z. Option SrcAnswer) [ true ↦ the_value (last_value o place h) | false ↦ None ] ≡ Some x → is_value x ≡ true
    go true same = found (last_value o place h) same
    go false same = cc

write_fits : (h : List Stamp) (p : Value) (x : SrcAnswer) → write_at h p ≡ Some x → is_unit x ≡ true
write_fits h (Value.Int k) x is = cc
write_fits h Value.Null x is = cc
write_fits h (Value.Ptr o place lo hi) x is = fit_where (is_usable h o place lo hi) is_unit SrcAnswer.Unit x refl is

number_is : (t : Bool) → is_value (number t) ≡ true
number_is true = refl
number_is false = refl

differs_is : (ne same : Bool) → is_value (differs_or_not ne same) ≡ true
differs_is true same = number_is (not same)
differs_is false same = number_is same

compared_fits : (h : List Stamp) (p q : Value) (ne : Bool) (x : SrcAnswer) → compared h p q ne ≡ Some x → is_value x ≡ true
compared_fits h Value.Null Value.Null ne x is = fit_known is_value (differs_or_not ne true) x (differs_is ne true) is
compared_fits h (Value.Ptr o place lo hi) Value.Null ne x is = fit_where _ is_value (differs_or_not ne false) x (differs_is ne false) is
compared_fits h Value.Null (Value.Ptr o place lo hi) ne x is = fit_where _ is_value (differs_or_not ne false) x (differs_is ne false) is
compared_fits h (Value.Ptr o place lo hi) (Value.Ptr p other from to) ne x is = fit_where _ is_value _ x (differs_is ne _) is
compared_fits h (Value.Int k) q ne x is = cc
compared_fits h Value.Null (Value.Int k) ne x is = cc
compared_fits h (Value.Ptr o place lo hi) (Value.Int k) ne x is = cc

free_fits : (h : List Stamp) (p : Value) (x : SrcAnswer) → freed h p ≡ Some x → is_unit x ≡ true
free_fits h Value.Null x is = fit_known is_unit SrcAnswer.Unit x refl is
free_fits h (Value.Ptr o place lo hi) x is = fit_where _ is_unit SrcAnswer.Unit x refl is
free_fits h (Value.Int k) x is = cc

pub answer_fits : (h : List Stamp) (n : ℕ) (e : Event) (x : SrcAnswer) → answer_of h n e ≡ Some x → is_fit e x ≡ true
answer_fits h n (Event.Rd p) x is = read_fits h p x is
answer_fits h n (Event.Wr p v) x is = write_fits h p x is
answer_fits h n (Event.Same p q ne) x is = compared_fits h p q ne x is
answer_fits h n (Event.New site items words) x is = fit_known is_value _ x refl is
answer_fits h n (Event.Free p) x is = free_fits h p x is
answer_fits h n Event.In x is = fit_known is_value _ x refl is
answer_fits h n Event.Left x is = fit_known is_value _ x refl is
answer_fits h n (Event.Call f) x is = fit_known is_frame _ x refl is
answer_fits h n (Event.Out v) x is = fit_known is_unit SrcAnswer.Unit x refl is
answer_fits h n Event.Ret x is = fit_known is_unit SrcAnswer.Unit x refl is
answer_fits h n Event.Turn x is = fit_known is_unit SrcAnswer.Unit x refl is
answer_fits h n (Event.Fork m) x is = fit_known is_unit SrcAnswer.Unit x refl is
answer_fits h n Event.Zero x is = fit_known is_unit SrcAnswer.Unit x refl is
answer_fits h n Event.Bad x is = cc
answer_fits h n (Event.Given v) x is = cc

-- some answer fits
pub some_fit : (e : Event) → (a : SrcAnswer) × (is_fit e a ≡ true)
some_fit (Event.Rd p) = (SrcAnswer.Value Value.Null, refl)
some_fit (Event.Wr p v) = (SrcAnswer.Unit, refl)
some_fit (Event.Same p q ne) = (SrcAnswer.Value Value.Null, refl)
some_fit (Event.New site items words) = (SrcAnswer.Value Value.Null, refl)
some_fit (Event.Free p) = (SrcAnswer.Unit, refl)
some_fit Event.In = (SrcAnswer.Value Value.Null, refl)
some_fit Event.Left = (SrcAnswer.Value Value.Null, refl)
some_fit (Event.Out v) = (SrcAnswer.Unit, refl)
some_fit (Event.Call f) = (SrcAnswer.Frame of_main, refl)
some_fit Event.Ret = (SrcAnswer.Unit, refl)
some_fit Event.Turn = (SrcAnswer.Unit, refl)
some_fit (Event.Fork m) = (SrcAnswer.Unit, refl)
some_fit Event.Zero = (SrcAnswer.Unit, refl)
some_fit Event.Bad = (SrcAnswer.Unit, refl)
some_fit (Event.Given v) = (SrcAnswer.Unit, refl)
