-- A name that is noted with the rules of its token, and the items of a declaration.
use Rattle.std.proofs.Common.{◌≡◌, ℕ, Bool, true, false, not, List, ◌∷◌, map, Option, Ok, Err, refl, ap, ◌∙◌, subst}
use Rattle.std.proofs.lemmas.List.{append-nil}
use Rattle.c_ast.specs.declared.decl.Base.{Base}
use Rattle.c_types.specs.declared.outline.Outline.{Outline}
use Rattle.c_types.specs.declared.known.Known.{Known}
use Rattle.c_typed.specs.Marks.{Mark, History}
use Rattle.c_typed.specs.Whole.{Whole}
use Rattle.c_typed.specs.Faults.{Fault}
use Rattle.c_typed.specs.Parts.{Place, Part, tokens, mark, with_faults, separated, behind, ◌<⊗◌, ◌⊗>◌}
use Rattle.c_typed.specs.Tags.{base}
use Rattle.c_types.specs.tools.Answers.{least}
use Rattle.c_types.specs.tools.Steps.{Found, ◌>>=◌, each, one}
use Rattle.c_types.specs.tools.Outlines.{base_walk}
use Rattle.c_types.specs.tools.StmtWalk.{same}
use Rattle.c_types.proofs.Bounds.{IsInside, inside}
use Rattle.c_types.proofs.BoundsExprs.{bounded_base}
use Rattle.c_types.proofs.BoundsDecls.{inside_separated, all_inside}
use Rattle.c_typed.proofs.Quiet.{quiet_base}
use Rattle.c_types.proofs.Tells.{Tells, answers_tell}
use Rattle.c_types.proofs.Outlined.{IsOutline, Names}
use Rattle.c_types.proofs.ExprAnswers.{base_answers}
use Rattle.c_types.proofs.LocalAnswers.{IsFirstTold}
use Rattle.c_types.proofs.ValuedAnswers.{tells_first_of}
use Rattle.c_types.proofs.Walking.{Goes, result_of, ok_is, err_ok, then, goes_same, goes_joined, goes_before, goes_separated, unvalued}

-- what is found, and what is known behind it
abbrev pub leaving : Found (Unit {0}) → Known → Found ((Unit {0}) × Known)
leaving r l = r >>= (λ _. Ok (tt, l))

left_result : (r : Found (Unit {0})) (l : Known) → (r >>= (λ u. Ok (tt {0}))) ≡ result_of (leaving r l)
left_result (Ok u) l = refl
left_result (Err e) l = refl

left_known : (r : Found (Unit {0})) (l : Known) (s : (Unit {0}) × Known) → leaving r l ≡ Ok s → l ≡ s.1
left_known (Ok u) l s e = ap (λ s. s.1) (ok_is e)
left_known (Err x) l s e = absurd (err_ok e)

pub twice_not : (b : Bool) → not (not b) ≡ b
twice_not true = refl
twice_not false = refl

abbrev pub second : {A : Type 0} → Unit {0} → A → A
second u a = a

-- the base of a declaration, and its items
abbrev pub listed : {X : Type 0} → Outline → Bool → Base → (X → Known → Found ((Unit {0}) × Known)) → List X → Known → Found (List (Unit {0}) × Known)
listed o v b step xs k = then second (same k (base_walk o k v b)) (λ s. each one step xs s.1)

module _ (R : History → Known → Type 0) where
  -- a mark behind its tokens, with the faults of its rules
  pub goes_noted : (more : Place → List Fault) (n : ℕ) (m : Mark) (here : Place) (o : Option Fault) (r : Found (Unit {0})) (l : Known) → least (more here) ≡ o → IsFirstTold o r → R (m ∷ here.before) l
      → Goes R (with_faults more (tokens n <⊗ mark m)) here (leaving r l)
  goes_noted more n m here o r l first told is = record {
    tells = subst (Tells ((with_faults more (tokens n <⊗ mark m)).judge here)) (left_result r l)
        (tells_first_of ((with_faults more (tokens n <⊗ mark m)).judge here) (tt {0}) o r (ap least (append-nil (more here)) ∙ first) refl told);
    stands = λ s e. subst (R (m ∷ here.before)) (left_known r l s e) is;
  }

  pub goes_listed : (w : Whole) (o : Outline) → IsOutline w o → {X : Type 0} (v : Bool) (b : Base) (f : X → Part (Unit {0})) (step : X → Known → Found ((Unit {0}) × Known)) → ((x : X) → IsInside (f x))
      → ((x : X) (here : Place) (k : Known) → R here.before k → Goes R (f x) here (step x k))
      → (xs : List X) (here : Place) (k : Known) → Names here.before k → R here.before k → Goes R (base w v b ⊗> separated (map f xs) <⊗ tokens 1) here (listed o v b step xs k)
  goes_listed w o is_outline v b f step inside_each each_goes xs here k names is =
      let p = base w v b in
      let q = separated (map f xs) in
      let r = base_walk o k v b in
      let first = goes_same R p here k r (quiet_base w v b) is (answers_tell (p.judge here) r (base_answers w o here.before k is_outline names v b here refl)) in
      let both = goes_joined R second p q here (same k r) (λ s. each one step xs s.1) (inside p (bounded_base w v b)) (inside_separated (all_inside f inside_each xs)) first
      (λ s e. goes_separated R f step inside_each each_goes xs (behind p here) s.1 (first.stands s e)) in
      goes_before R 1 (p ⊗> q) here _ both

-- the walk over them without values
pub listed_unvalued : {X : Type 0} (o : Outline) (v : Bool) (b : Base) (step : X → Known → Found ((Unit {0}) × Known)) (xs : List X) (k : Known) (f : Found ((Unit {0}) × Known))
    → f ≡ unvalued (each one step xs k) → (base_walk o k v b >>= (λ _. f)) ≡ unvalued (listed o v b step xs k)
listed_unvalued o v b step xs k f is = by (base_walk o k v b) where
  kept : {A : Type 0} (r : Found (A × Known)) → unvalued r ≡ unvalued (r >>= (λ t. Ok (t.0, t.1)))
  kept (Ok t) = refl
  kept (Err e) = refl

  by : (r : Found (Unit {0})) → (r >>= (λ _. f)) ≡ unvalued (then second (same k r) (λ s. each one step xs s.1))
  by (Ok u) = is ∙ kept (each one step xs k)
  by (Err e) = refl
