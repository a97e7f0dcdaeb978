-- What a run begins with: words of globals are written, and numbers are given. Nothing is made, and nobody calls.
use Rattle.std.proofs.Common.{◌≡◌, ℕ, suc, ℤ, pos, inl, List, [], ◌∷◌, ◌++◌, map, reverse, length, true, false, Bool, refl, Option, Some, None, sym, ◌∙◌, ap, subst}
use Rattle.std.specs.Prelude.{◌&&◌, nat_eq}
use Rattle.std.specs.Ordering.{int_eq}
use Rattle.std.proofs.lemmas.List.{reverse-append}
use Rattle.obj_mem.specs.declared.Maker.{Maker}
use Rattle.obj_mem.specs.declared.value.Obj.{Obj}
use Rattle.obj_mem.specs.declared.value.Value.{Value}
use Rattle.obj_mem.specs.declared.event.Event.{Event}
use Rattle.obj_mem.specs.declared.event.Stamp.{Stamp}
use Rattle.obj_mem.specs.Objects.{of_program, same_obj}
use Rattle.obj_mem.specs.Alive.{next_maker, frames_by, open_frames, is_lasting}
use Rattle.obj_mem.specs.Written.{written, last_value}
use Rattle.obj_mem.specs.Opening.{opened, words_opened, global_of, globals_opened, opening_of}
use Rattle.obj_mem.specs.Laws.{IsMade}
use Rattle.obj_mem.proofs.Blocks.{is_obj}

pub data IsFirst : Stamp → Type 0 where
  writes : (o : Obj) (off lo hi : ℤ) (v : Value) → o.maker ≡ of_program → IsFirst (opened (Event.Wr (Value.Ptr o off lo hi) v))
  gives : (v : ℤ) → IsFirst (opened (Event.Given v))

abbrev pub AreFirst : List Stamp → Type 0
AreFirst [] = Unit {0}
AreFirst (s ∷ h) = IsFirst s × AreFirst h

both_first : (h k : List Stamp) → AreFirst h → AreFirst k → AreFirst (h ++ k)
both_first [] k a b = b
both_first (s ∷ h) k a b = (a.0, both_first h k a.1 b)

back_first : (h : List Stamp) → AreFirst h → AreFirst (reverse h)
back_first [] a = tt
back_first (s ∷ h) a = subst AreFirst (sym (reverse-append (s ∷ []) h)) (both_first (reverse h) (s ∷ []) (back_first h a.1) (a.0, tt))

words_first : (o : Obj) → o.maker ≡ of_program → (at : ℕ) (vs : List Value) → AreFirst (words_opened o at vs)
words_first o is at [] = tt
words_first o is at (v ∷ vs) = (IsFirst.writes o (pos at) (pos 0) (pos o.len) v is, words_first o is (suc at) vs)

globals_first : (site : ℕ) (globals : List (List Value)) → AreFirst (globals_opened site globals)
globals_first site [] = tt
globals_first site (vs ∷ globals) = both_first (words_opened (global_of site (length vs)) 0 vs) (globals_opened (suc site) globals) (words_first (global_of site (length vs)) refl 0 vs) (globals_first (suc site) globals)

input_first : (input : List ℤ) → AreFirst (map (λ v. opened (Event.Given v)) input)
input_first [] = tt
input_first (v ∷ input) = (IsFirst.gives v, input_first input)

pub opening_first : (globals : List (List Value)) (input : List ℤ) → AreFirst (opening_of globals input)
opening_first globals input =
    back_first (globals_opened 0 globals ++ map (λ v. opened (Event.Given v)) input) (both_first (globals_opened 0 globals) (map (λ v. opened (Event.Given v)) input) (globals_first 0 globals) (input_first input))

-- What follows.

first_made : (s : Stamp) → IsFirst s → (o : Obj) (off : ℤ) (v : Value) → written o off s.event ≡ Some v → o.maker ≡ of_program
first_made s (IsFirst.writes p at lo hi w maker) o off v is = by (same_obj o p) (int_eq off at) refl is
  where
    by : (a b : Bool) → same_obj o p ≡ a → elim (a && b) as (λ z. Option Value) [ true ↦ Some w | false ↦ None ] ≡ Some v → o.maker ≡ of_program
    by true b same z = ap (λ (q : Obj). q.maker) (is_obj o p same) ∙ maker
    by false b same z = cc
first_made s (IsFirst.gives w) o off v is = cc

words_made : (h : List Stamp) → AreFirst h → (o : Obj) (off : ℤ) (v : Value) → last_value o off h ≡ Some v → o.maker ≡ of_program
unfolding last_value
words_made [] all o off v is = cc
words_made (s ∷ h) all o off v is = by (written o off s.event) refl is (words_made h all.1 o off v)
  where
    by : (w : Option Value) → written o off s.event ≡ w → elim w as (λ z. Option Value) [ Some x ↦ Some x | None ↦ last_value o off h ] ≡ Some v
        → (last_value o off h ≡ Some v → o.maker ≡ of_program) → o.maker ≡ of_program
    by (Some x) wrote z rest = first_made s all.0 o off x wrote
    by None wrote z rest = rest z

pub first_words : (globals : List (List Value)) (input : List ℤ) (o : Obj) (off : ℤ) (v : Value) → last_value o off (opening_of globals input) ≡ Some v → IsMade (opening_of globals input) o.maker
first_words globals input o off v is = inl (ap is_lasting (words_made (opening_of globals input) (opening_first globals input) o off v is))

pub nobody_calls : (n : ℕ) (h : List Stamp) → AreFirst h → open_frames n h ≡ []
unfolding open_frames
nobody_calls n [] all = refl
nobody_calls n (s ∷ h) all = by (nat_eq s.name.0 n) ∙ nobody_calls n h all.1
  where
    quiet : (s : Stamp) → IsFirst s → (m : Maker) (ms : List Maker) → frames_by s.event m ms ≡ ms
    quiet s (IsFirst.writes p at lo hi w maker) m ms = refl
    quiet s (IsFirst.gives w) m ms = refl

    by : (b : Bool) → elim b as (λ z. List Maker) [ true ↦ frames_by s.event (next_maker n h) (open_frames n h) | false ↦ open_frames n h ] ≡ open_frames n h
    by true = quiet s all.0 (next_maker n h) (open_frames n h)
    by false = refl
