-- What a part's answer tells: that it has no fault, and its value; or the fault that is told first. (An `Answers` says also that a
-- part with a fault has no value, which declarations and statements may have.)
use Rattle.std.proofs.Common.{◌≡◌, ◌≢◌, ℕ, ◌+◌, List, [], ◌∷◌, ◌++◌, Option, Some, None, Result, Ok, Err, refl, ap, ◌∙◌}
use Rattle.std.proofs.lemmas.List.{append-nil}
use Rattle.dfi_base.specs.declared.numbers.Line.{Line}
use Rattle.c_typed.specs.declared.fault.TypeFault.{TypeFault}
use Rattle.c_typed.specs.Marks.{Mark}
use Rattle.c_typed.specs.Faults.{Rule, Fault, told}
use Rattle.c_typed.specs.Parts.{Place, Judged, Part, tokens, given, mark, joined, behind, both_values, kept_by, ruled_by, ruled, with_faults, separated, in_turn, ◌<⊗◌, ◌⊗>◌, ◌<$>◌}
use Rattle.c_types.specs.tools.Answers.{least, earlier, Answers}
use Rattle.c_types.proofs.AnswerLaws.{AllBefore, AllFrom, least_append, or_else}
use Rattle.c_types.proofs.Bounds.{IsInside}

-- the fault that is told
pub record IsTold (fs : List Fault) (e : TypeFault) : Type 0 where
  pub fault : Fault
  pub first : least fs ≡ Some fault
  pub told : e ≡ told fault

-- want of memory is free
abbrev pub Tells : {A : Type 0} → Judged A → Result A TypeFault → Type 0
Tells {A} j (Ok a) = (j.faults ≡ []) × (j.value ≡ Some a)
Tells {A} j (Err e) = e ≢ TypeFault.Memory → IsTold j.faults e

pub answers_tell : {A : Type 0} (j : Judged A) (r : Result A TypeFault) → Answers j r → Tells j r
answers_tell j (Ok a) is = is
answers_tell j (Err e) is = λ wanted.
    let o = is wanted in
    record { fault = o.fault; first = o.first; told = o.told }

-- a part without a fault
pub tells_given : {A : Type 0} (a : A) (here : Place) → Tells ((given a).judge here) (Ok a)
tells_given a here = (refl, refl)

abbrev pub mapped_result : {A B : Type 0} → (A → B) → Result A TypeFault → Result B TypeFault
mapped_result f (Ok a) = Ok (f a)
mapped_result f (Err e) = Err e

-- the first that is none decides
abbrev pub both_result : {A B C : Type 0} → (A → B → C) → Result A TypeFault → Result B TypeFault → Result C TypeFault
both_result f (Ok a) s = mapped_result (f a) s
both_result f (Err e) s = Err e

pub tells_map : {A B : Type 0} (f : A → B) (p : Part A) (here : Place) (r : Result A TypeFault) → Tells (p.judge here) r → Tells ((f <$> p).judge here) (mapped_result f r)
tells_map {A} {B} f p here (Ok a) is = (is.0, ap (λ o. changed_value o) is.1) where
  changed_value : Option A → Option B
  changed_value o = elim o [ None ↦ None | Some a ↦ Some (f a) ]
tells_map f p here (Err e) is = is

-- Two parts, one behind the other.
pub tells_second : {A B C : Type 0} (f : A → B → C) (p : Part A) (q : Part B) (here : Place) (a : A) (s : Result B TypeFault)
    → Tells (p.judge here) (Ok a) → Tells (q.judge (behind p here)) s → Tells ((joined f p q).judge here) (mapped_result (f a) s)
tells_second f p q here a (Ok b) is that =
    (ap (λ fs. fs ++ (q.judge (behind p here)).faults) is.0 ∙ that.0, ap (λ v. both_values f v (q.judge (behind p here)).value) is.1 ∙ ap (λ v. both_values f (Some a) v) that.1)
tells_second f p q here a (Err e) is that = λ wanted.
    let o = that wanted in
    record { fault = o.fault; first = ap (λ fs. least (fs ++ (q.judge (behind p here)).faults)) is.0 ∙ o.first; told = o.told }

pub tells_first : {A B C : Type 0} (f : A → B → C) (p : Part A) (q : Part B) (here : Place) (e : TypeFault)
    → IsInside p → IsInside q → Tells (p.judge here) (Err e) → Tells ((joined f p q).judge here) (Err e)
tells_first f p q here e is_p is_q is = λ wanted.
    let o = is wanted in
    let fs = (p.judge here).faults in
    let gs = (q.judge (behind p here)).faults in
    record {
      fault = o.fault;
      first = least_append (here.at + p.tokens) fs gs (is_p.within here).end (is_q.within (behind p here)).start ∙ ap (λ o. or_else o (least gs)) o.first;
      told = o.told;
    }

pub tells_joined : {A B C : Type 0} (f : A → B → C) (p : Part A) (q : Part B) (here : Place) (r : Result A TypeFault) (s : Result B TypeFault)
    → IsInside p → IsInside q → Tells (p.judge here) r → ((a : A) → r ≡ Ok a → Tells (q.judge (behind p here)) s) → Tells ((joined f p q).judge here) (both_result f r s)
tells_joined f p q here (Ok a) s is_p is_q is that = tells_second f p q here a s is (that a refl)
tells_joined f p q here (Err e) s is_p is_q is that = tells_first f p q here e is_p is_q is

-- behind tokens without a rule, before them, and behind and before a mark
pub tells_after : {A : Type 0} (n : ℕ) (p : Part A) (here : Place) (r : Result A TypeFault) → Tells (p.judge (behind (tokens n) here)) r → Tells ((tokens n ⊗> p).judge here) r
tells_after n p here (Ok a) is = tells_second (λ u a. a) (tokens n) p here (tt {0}) (Ok a) (refl, refl) is
tells_after n p here (Err e) is = tells_second (λ u a. a) (tokens n) p here (tt {0}) (Err e) (refl, refl) is

pub tells_after_mark : {A : Type 0} (m : Mark) (p : Part A) (here : Place) (r : Result A TypeFault) → Tells (p.judge (behind (mark m) here)) r → Tells ((mark m ⊗> p).judge here) r
tells_after_mark m p here (Ok a) is = tells_second (λ u a. a) (mark m) p here (tt {0}) (Ok a) (refl, refl) is
tells_after_mark m p here (Err e) is = tells_second (λ u a. a) (mark m) p here (tt {0}) (Err e) (refl, refl) is

-- behind a part that is known to have no fault
ended : {A : Type 0} (p : Part A) (here : Place) (e : TypeFault) → Tells (p.judge here) (Err e) → e ≢ TypeFault.Memory → IsTold ((p.judge here).faults ++ []) e
ended p here e is wanted =
    let o = is wanted in
    record { fault = o.fault; first = ap least (append-nil (p.judge here).faults) ∙ o.first; told = o.told }

pub tells_before : {A : Type 0} (n : ℕ) (p : Part A) (here : Place) (r : Result A TypeFault) → Tells (p.judge here) r → Tells ((p <⊗ tokens n).judge here) r
tells_before n p here (Ok a) is = tells_second (λ a u. a) p (tokens n) here a (Ok (tt {0})) is (refl, refl)
tells_before n p here (Err e) is = ended p here e is

pub tells_before_mark : {A : Type 0} (m : Mark) (p : Part A) (here : Place) (r : Result A TypeFault) → Tells (p.judge here) r → Tells ((p <⊗ mark m).judge here) r
tells_before_mark m p here (Ok a) is = tells_second (λ a u. a) p (mark m) here a (Ok (tt {0})) is (refl, refl)
tells_before_mark m p here (Err e) is = ended p here e is

-- Parts of a list, one at a time. Those that are still to come stand within their tokens.
pub tells_none : {A : Type 0} (here : Place) → Tells ((in_turn {A = A} []).judge here) (Ok [])
tells_none here = (refl, refl)

pub tells_in_turn : {A : Type 0} (p : Part A) (ps : List (Part A)) (here : Place) (r : Result A TypeFault) (s : Result (List A) TypeFault)
    → IsInside p → IsInside (in_turn ps) → Tells (p.judge here) r → ((a : A) → r ≡ Ok a → Tells ((in_turn ps).judge (behind p here)) s)
    → Tells ((in_turn (p ∷ ps)).judge here) (both_result (λ a rest. a ∷ rest) r s)
tells_in_turn p ps here r s is_p is_ps is that = tells_joined (λ a rest. a ∷ rest) p (in_turn ps) here r s is_p is_ps is that

pub tells_one : {A : Type 0} (p : Part A) (here : Place) (r : Result A TypeFault) → Tells (p.judge here) r → Tells ((separated (p ∷ [])).judge here) (mapped_result (λ a. a ∷ []) r)
tells_one p here (Ok a) is = tells_second (λ a rest. a ∷ rest) p (given []) here a (Ok []) is (refl, refl)
tells_one p here (Err e) is = ended p here e is

pub tells_separated : {A : Type 0} (p q : Part A) (ps : List (Part A)) (here : Place) (r : Result A TypeFault) (s : Result (List A) TypeFault)
    → IsInside (p <⊗ tokens 1) → IsInside (separated (q ∷ ps)) → Tells (p.judge here) r
    → ((a : A) → r ≡ Ok a → Tells ((separated (q ∷ ps)).judge (behind (p <⊗ tokens 1) here)) s)
    → Tells ((separated (p ∷ q ∷ ps)).judge here) (both_result (λ a rest. a ∷ rest) r s)
tells_separated p q ps here r s is_p is_ps is that =
    tells_joined (λ a rest. a ∷ rest) (p <⊗ tokens 1) (separated (q ∷ ps)) here r s is_p is_ps (tells_before 1 p here r is) that

-- Faults beside those of a part: none, or some that stand before all of the part's.
pub tells_with_none : {A : Type 0} (more : Place → List Fault) (p : Part A) (here : Place) (r : Result A TypeFault) → more here ≡ [] → Tells (p.judge here) r → Tells ((with_faults more p).judge here) r
tells_with_none more p here (Ok a) none is = (ap (λ fs. fs ++ (p.judge here).faults) none ∙ is.0, is.1)
tells_with_none more p here (Err e) none is = λ wanted.
    let o = is wanted in
    record { fault = o.fault; first = ap (λ fs. least (fs ++ (p.judge here).faults)) none ∙ o.first; told = o.told }

pub tells_with_some : {A : Type 0} (n : ℕ) (more : Place → List Fault) (p : Part A) (here : Place) (f : Fault)
    → least (more here) ≡ Some f → AllBefore n (more here) → AllFrom n (p.judge here).faults → Tells ((with_faults more p).judge here) (Err (told f))
tells_with_some n more p here f is before from = λ wanted. record {
  fault = f;
  first = least_append n (more here) (p.judge here).faults before from ∙ ap (λ o. or_else o (least (p.judge here).faults)) is;
  told = refl;
}

-- beside a part that has no fault of its own
pub tells_with_alone : {A : Type 0} (more : Place → List Fault) (p : Part A) (here : Place) (f : Fault)
    → least (more here) ≡ Some f → (p.judge here).faults ≡ [] → Tells ((with_faults more p).judge here) (Err (told f))
tells_with_alone more p here f is none = λ wanted. record {
  fault = f;
  first = ap (λ fs. least (more here ++ fs)) none ∙ ap least (append-nil (more here)) ∙ is;
  told = refl;
}

-- one fault at the first token, before or beside those of the part
pub tells_with_one : {A : Type 0} (more : Place → List Fault) (p : Part A) (here : Place) (f g : Fault)
    → more here ≡ f ∷ [] → earlier f (least (p.judge here).faults) ≡ Some g → Tells ((with_faults more p).judge here) (Err (told g))
tells_with_one more p here f g one is = λ wanted. record {
  fault = g;
  first = ap (λ fs. least (fs ++ (p.judge here).faults)) one ∙ is;
  told = refl;
}

-- A rule of a whole over a part with a value, whatever faults it has: kept, or broken at its first token.
pub tells_kept : {A B : Type 0} (rule : Rule) (line : Line) (keeps : A → Option B) (here : Place) (j : Judged A) (a : A) (b : B)
    → j.faults ≡ [] → j.value ≡ Some a → keeps a ≡ Some b → Tells (ruled rule line keeps here j) (Ok b)
tells_kept rule line keeps here j a b none is kept =
    let by = ap (λ v. ruled_by rule line keeps here.at j.faults v) is ∙ ap (λ k. kept_by rule line here.at j.faults k) kept in
    (ap (λ r. r.faults) by ∙ none, ap (λ r. r.value) by)

pub tells_kept_faults : {A B : Type 0} (rule : Rule) (line : Line) (keeps : A → Option B) (here : Place) (j : Judged A) (a : A) (b : B) (f : Fault)
    → least j.faults ≡ Some f → j.value ≡ Some a → keeps a ≡ Some b → Tells (ruled rule line keeps here j) (Err (told f))
tells_kept_faults rule line keeps here j a b f first is kept = λ wanted.
    let by = ap (λ v. ruled_by rule line keeps here.at j.faults v) is ∙ ap (λ k. kept_by rule line here.at j.faults k) kept in
    record { fault = f; first = ap (λ r. least r.faults) by ∙ first; told = refl }

pub tells_broken : {A B : Type 0} (rule : Rule) (line : Line) (keeps : A → Option B) (here : Place) (j : Judged A) (a : A) (f : Fault)
    → j.value ≡ Some a → keeps a ≡ None → earlier (record { at = here.at; rule = rule; line = line }) (least j.faults) ≡ Some f → Tells (ruled rule line keeps here j) (Err (told f))
tells_broken rule line keeps here j a f is kept first = λ wanted.
    let by = ap (λ v. ruled_by rule line keeps here.at j.faults v) is ∙ ap (λ k. kept_by rule line here.at j.faults k) kept in
    record { fault = f; first = ap (λ r. least r.faults) by ∙ first; told = refl }

-- over one without a value nothing is judged
pub tells_unjudged : {A B : Type 0} (rule : Rule) (line : Line) (keeps : A → Option B) (here : Place) (j : Judged A) (e : TypeFault)
    → j.value ≡ None → Tells j (Err e) → Tells (ruled rule line keeps here j) (Err e)
tells_unjudged {A} {B} rule line keeps here j e is answers = λ wanted.
    let by = ap (λ v. ruled_by {A = A} {B = B} rule line keeps here.at j.faults v) is in
    let o = answers wanted in
    record { fault = o.fault; first = ap (λ r. least r.faults) by ∙ o.first; told = o.told }
