-- The function of an open call is the one that was called when its frame was made; and a frame that lives has an activation.
use Rattle.std.proofs.Common.{◌≡◌, ℕ, suc, ◌≤◌, ℤ, List, [], ◌∷◌, ◌++◌, map, Bool, true, false, refl, Option, Some, None, arith, sym, ◌∙◌, ap, subst, inl, inr}
use Rattle.std.specs.Prelude.{nat_eq, ◌&&◌, ◌||◌}
use Rattle.std.proofs.lemmas.Bool.{eqb-true, eq-eqb, ne_eqb}
use Rattle.obj_mem.specs.declared.Maker.{Maker}
use Rattle.obj_mem.specs.declared.value.Value.{Value}
use Rattle.obj_mem.specs.declared.event.Event.{Event}
use Rattle.obj_mem.specs.declared.event.Stamp.{Stamp}
use Rattle.obj_mem.specs.Objects.{same_maker}
use Rattle.obj_mem.specs.Alive.{makes, made_by, next_maker, open_frames, is_frame}
use Rattle.obj_mem.proofs.Blocks.{is_maker}
use Rattle.obj_mem.proofs.Makers.{more_made}
use Rattle.tac_ir.specs.declared.code.Code.{Code}
use Rattle.tac_ir.specs.GoodForm.{GoodForm}
use Rattle.obj_run.specs.Entries.{Entry, stamps_of}
use Rattle.obj_run.specs.Starts.{opening}
use Rattle.obj_run.specs.Runs.{ObjLife, ObjLives, IsObjTree}
use Rattle.obj_law.specs.Did.{ObjActivation}
use Rattle.obj_law.specs.Frames.{OpenCall, calls_by, open_calls, calls_of, calls_in, fun_in, function_of, AreMade, Stands, IsActive}
use Rattle.obj_law.proofs.OpenCalls.{makers_open, opens}

-- an open call of name n: its frame was made by n, by a call of its function
record IsCallOf (n : ℕ) (h : List Stamp) (x : OpenCall) : Type 0 where
  thread : x.maker.thread.0 ≡ n
  count : x.maker.count ≤ made_by n h
  fun : function_of x.maker h ≡ Some x.fun

abbrev AreCallsOf : ℕ → List Stamp → List OpenCall → Type 0
AreCallsOf n h [] = Unit {0}
AreCallsOf n h (x ∷ xs) = IsCallOf n h x × AreCallsOf n h xs

older : (n : ℕ) (s : Stamp) (h : List Stamp) (x : OpenCall) → IsCallOf n h x → IsCallOf n (s ∷ h) x
unfolding function_of
older n s h x is = record {
  thread = is.thread;
  count = (let more = more_made n s h in let less = is.count in omega (arith, more, less));
  fun = by (nat_eq s.name.0 x.maker.thread.0) (makes s.event) ∙ is.fun;
}
  where
    other : nat_eq x.maker.count (suc (made_by x.maker.thread.0 h)) ≡ false
    other = ne_eqb x.maker.count (suc (made_by x.maker.thread.0 h)) (λ e. (let same = ap (λ k. made_by k h) is.thread in let less = is.count in omega (arith, e, same, less)))

    by : (a b : Bool) → elim (a && (b && nat_eq x.maker.count (suc (made_by x.maker.thread.0 h)))) as (λ z. Option ℕ) [ true ↦ fun_in s.event | false ↦ function_of x.maker h ] ≡ function_of x.maker h
    by true true = ap (λ b. elim b as (λ z. Option ℕ) [ true ↦ fun_in s.event | false ↦ function_of x.maker h ]) other
    by true false = refl
    by false b = refl

all_older : (n : ℕ) (s : Stamp) (h : List Stamp) (xs : List OpenCall) → AreCallsOf n h xs → AreCallsOf n (s ∷ h) xs
all_older n s h [] all = tt
all_older n s h (x ∷ xs) all = (older n s h x all.0, all_older n s h xs all.1)

newest : (n : ℕ) (s : Stamp) (h : List Stamp) (f : ℕ) → s.name.0 ≡ n → s.event ≡ Event.Call f → IsCallOf n (s ∷ h) (record { fun = f; maker = next_maker n h })
unfolding function_of made_by
newest n s h f name is = record {
  thread = refl;
  count = (let one : made_by n (s ∷ h) ≡ suc (made_by n h) = ap (λ b. elim b as (λ z. ℕ) [ true ↦ suc (made_by n h) | false ↦ made_by n h ]) both in omega (arith, one));
  fun = ap (λ b. elim b as (λ z. Option ℕ) [ true ↦ fun_in s.event | false ↦ function_of (next_maker n h) h ]) guard ∙ ap fun_in is;
}
  where
    named : nat_eq s.name.0 n ≡ true
    named = eq-eqb s.name.0 n name

    made : makes s.event ≡ true
    made = ap makes is

    both : (nat_eq s.name.0 n && makes s.event) ≡ true
    both = ap (λ b. b && makes s.event) named ∙ made

    guard : (nat_eq s.name.0 n && (makes s.event && nat_eq (suc (made_by n h)) (suc (made_by n h)))) ≡ true
    guard = ap (λ b. b && (makes s.event && nat_eq (suc (made_by n h)) (suc (made_by n h)))) named ∙ ap (λ b. b && nat_eq (suc (made_by n h)) (suc (made_by n h))) made ∙ eq-eqb (suc (made_by n h)) (suc (made_by n h)) refl

by_event : (n : ℕ) (s : Stamp) (h : List Stamp) (xs : List OpenCall) → s.name.0 ≡ n → AreCallsOf n h xs → (e : Event) → s.event ≡ e → AreCallsOf n (s ∷ h) (calls_by e (next_maker n h) xs)
by_event n s h xs name all (Event.Call f) is = (newest n s h f name is, all_older n s h xs all)
by_event n s h [] name all Event.Ret is = tt
by_event n s h (x ∷ xs) name all Event.Ret is = all_older n s h xs all.1
by_event n s h xs name all e is = all_older n s h xs all

calls_made : (n : ℕ) (h : List Stamp) → AreCallsOf n h (open_calls n h)
unfolding open_calls
calls_made n [] = tt
calls_made n (s ∷ h) = by (nat_eq s.name.0 n) refl (calls_made n h)
  where
    by : (b : Bool) → nat_eq s.name.0 n ≡ b → AreCallsOf n h (open_calls n h)
        → AreCallsOf n (s ∷ h) (elim b as (λ z. List OpenCall) [ true ↦ calls_by s.event (next_maker n h) (open_calls n h) | false ↦ open_calls n h ])
    by true is all = by_event n s h (open_calls n h) (eqb-true s.name.0 n is) all s.event refl
    by false is all = all_older n s h (open_calls n h) all

pub functions_made : (n : ℕ) (h : List Stamp) → AreMade h (open_calls n h)
functions_made n h = by (open_calls n h) (calls_made n h)
  where
    by : (xs : List OpenCall) → AreCallsOf n h xs → AreMade h xs
    by [] all = tt
    by (x ∷ xs) all = (all.0.fun, by xs all.1)

-- Frames that live.

record Found (m : Maker) (h : List Stamp) (x : ObjActivation) (callers : List ObjActivation) : Type 0 where
  fun : ℕ
  made : function_of m h ≡ Some fun
  stands : Stands x callers fun (record { maker = m })

found : (m : Maker) (h : List Stamp) (x : ObjActivation) (callers : List ObjActivation) → AreMade h (calls_of x callers) → is_frame m (map (λ (z : OpenCall). z.maker) (calls_of x callers)) ≡ true → Found m h x callers
found m h x [] made is = cc
found m h x (y ∷ callers) made is = by (same_maker m x.stack.maker) refl is (found m h y callers made.1)
  where
    by : (b : Bool) → same_maker m x.stack.maker ≡ b → (b || is_frame m (map (λ (z : OpenCall). z.maker) (calls_of y callers))) ≡ true
        → (is_frame m (map (λ (z : OpenCall). z.maker) (calls_of y callers)) ≡ true → Found m h y callers) → Found m h x (y ∷ callers)
    by true same z rest =
        let one = is_maker m x.stack.maker same in
        record { fun = x.fun; made = ap (λ k. function_of k h) one ∙ made.0; stands = inl (refl, λ i. record { maker = sym one i }) }
    by false same z rest = (let r = rest z in record { fun = r.fun; made = r.made; stands = inr r.stands })

pub frames_active : (c : Code) (input : List ℤ) → GoodForm c → (h : List Entry) (f : ObjLives) (d : Option Value) → IsObjTree c input h f d → (m : Maker) → is_frame m (open_frames m.thread.0 (stamps_of h ++ opening c input)) ≡ true
    → (fun : ℕ) × (function_of m (stamps_of h ++ opening c input) ≡ Some fun) × IsActive f fun (record { maker = m })
frames_active c input good h f d chain m lives = by (f n) refl
  where
    n : ℕ
    n = m.thread.0

    all : List Stamp
    all = stamps_of h ++ opening c input

    by : (o : Option ObjLife) → f n ≡ o → (fun : ℕ) × (function_of m all ≡ Some fun) × IsActive f fun (record { maker = m })
    by None none =
        let clash : false ≡ true = sym (ap (λ o. is_frame m (map (λ (z : OpenCall). z.maker) (calls_in o))) none) ∙ sym (ap (λ xs. is_frame m (map (λ (z : OpenCall). z.maker) xs)) (opens c input good h f d chain n))
        ∙ sym (ap (is_frame m) (makers_open n all)) ∙ lives in
        cc
    by (Some l) there =
        let calls : open_calls n all ≡ calls_of l.top l.callers = opens c input good h f d chain n ∙ ap calls_in there in
        let r = found m all l.top l.callers (subst (AreMade all) calls (functions_made n all))
        (sym (ap (λ xs. is_frame m (map (λ (z : OpenCall). z.maker) xs)) calls) ∙ sym (ap (is_frame m) (makers_open n all)) ∙ lives) in
        (r.fun, r.made, (n, l, there, r.stands))
