-- A module whose classes are those of its sets can run.
use Rattle.std.proofs.Common.{◌≡◌, ℕ, Bool, true, false, ◌||◌, nat_eq, List, [], ◌∷◌, map, refl, sym, ap, ◌∙◌, subst}
use Rattle.std.proofs.lemmas.Bool.{eq-eqb, eqb-true}
use Rattle.tac_ir.specs.Answers.{class_of, has, set_of}
use Rattle.def_classes.proofs.Telling.{tell_sets}
use Rattle.build_law.specs.Laws.{ClassedCanRun}

-- what a member is mapped to is among those of the members
mapped : (f : ℕ → ℕ) (xs : List ℕ) (e : ℕ) → has xs e ≡ true → has (map f xs) (f e) ≡ true
mapped f [] e there = there
mapped f (x ∷ xs) e there = by (nat_eq x e) refl there (mapped f xs e) where
  or_true : (b : Bool) → (b || true) ≡ true
  or_true true = refl
  or_true false = refl

  by : (b : Bool) → nat_eq x e ≡ b → (b || has xs e) ≡ true → (has xs e ≡ true → has (map f xs) (f e) ≡ true) → (nat_eq (f x) (f e) || has (map f xs) (f e)) ≡ true
  by true is there rest = ap (λ b. b || has (map f xs) (f e)) (eq-eqb (f x) (f e) (ap f (eqb-true x e is)))
  by false is there rest = ap (λ b. nat_eq (f x) (f e) || b) (rest there) ∙ or_true (nat_eq (f x) (f e))

pub can_run : ClassedCanRun
can_run m good classes = record {
  form = good.form;
  tables = good.tables;
  separate = λ r d e number there same.
      (tell_sets m classes r d number).0 (subst (λ n. has (map (class_of m) (set_of m r)) n ≡ true) (sym same) (mapped (class_of m) (set_of m r) e there));
}
