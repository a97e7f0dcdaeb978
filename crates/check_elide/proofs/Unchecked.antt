-- Marks are those of the reads that may go unchecked.
use Rattle.std.proofs.Common.{◌≡◌, ◌↔◌, ℕ, zero, suc, ◌<◌, ◌≤◌, Bool, true, false, not, Option, Some, None, List, [], ◌∷◌, ◌++◌, inl, inr, length, refl, sym, ap, subst, ◌∙◌, arith}
use Rattle.std.specs.Prelude.{slice_get, IsTrue}
use Rattle.std.proofs.lemmas.List.{length-append}
use Rattle.std.proofs.lemmas.Bool.{cases_lt}
use Rattle.std.proofs.lemmas.Option.{none-some, slice_get_within}
use Rattle.tac_ir.specs.Answers.{is_checked}
use Rattle.tac_ir.specs.Module.{Module}
use Rattle.tac_ir.specs.Numbers.{new_read}
use Rattle.tac_ir.specs.GoodModule.{GoodModule}
use Rattle.flow_rules.specs.Removed.{Removed}
use Rattle.module_law.proofs.MarkedModules.{from_marked, to_marked}
use Rattle.check_elide.specs.Elides.{AreMarks, Elides, with_marks}
use Rattle.check_elide.proofs.ReadNumbers.{is_read}

the_same : (x : Bool) → Some x ≡ Some true → x ≡ true
the_same x e = cc

-- a mark behind others
at_end : (xs : List Bool) (x : Bool) → slice_get (xs ++ x ∷ []) (length xs) ≡ Some x
at_end [] x = refl
at_end (y ∷ xs) x = at_end xs x

before_end : (xs : List Bool) (x : Bool) (i : ℕ) → i < length xs → slice_get (xs ++ x ∷ []) i ≡ slice_get xs i
before_end [] x i less = absurd (omega (arith, less))
before_end (y ∷ xs) x zero less = refl
before_end (y ∷ xs) x (suc i) less = before_end xs x i (omega (arith, less))

abbrev pub Marked : Module → List Bool → ℕ → Type 0
Marked m removed i = (slice_get removed i ≡ Some true) ↔ Removed m (suc i)

pub marked_more : (m : Module) (removed : List Bool) (x : Bool) (n : ℕ) → length removed ≡ n → ((i : ℕ) → i < length removed → Marked m removed i) → IsTrue x ↔ Removed m (suc n)
    → (i : ℕ) → i < length (removed ++ x ∷ []) → Marked m (removed ++ x ∷ []) i
marked_more m removed x n is all here i less = elim (cases_lt i (length removed)) [ inl low ↦ before low | inr at ↦ last at ] where
  before : i < length removed → Marked m (removed ++ x ∷ []) i
  before low = (let same = before_end removed x i low in ((λ e. (all i low).0 (sym same ∙ e)), λ r. same ∙ (all i low).1 r))

  last : length removed ≤ i → Marked m (removed ++ x ∷ []) i
  last at =
      let place : i ≡ length removed = omega (arith, at, less, length-append removed (x ∷ [])) in
      let same : slice_get (removed ++ x ∷ []) i ≡ Some x = ap (slice_get (removed ++ x ∷ [])) place ∙ at_end removed x in
      let number : suc i ≡ suc n = ap suc (place ∙ is) in
      ((λ e. subst (Removed m) (sym number) (here.0 (the_same x (sym same ∙ e)))), λ r. same ∙ ap Some (here.1 (subst (Removed m) number r)))

-- a mark says of its read whether it goes unchecked
is_unchecked : (m : Module) (marks : List Bool) (r : ℕ) → GoodModule m → AreMarks m marks → (is_checked (with_marks m marks) r ≡ false) ↔ Removed m r
is_unchecked m marks zero good are = ((λ e. absurd (true_false e)), λ r. absurd (let low = (is_read m.code good.form r.at zero (ap new_read r.read)).low in omega (arith, low))) where
  true_false : true ≡ false → ⊥
  true_false e = cc
is_unchecked m marks (suc i) good are = by (slice_get marks i) refl where
  differ : false ≡ true → ⊥
  differ e = cc

  by : (o : Option Bool) → slice_get marks i ≡ o → (elim o [ None ↦ true | Some removed ↦ not removed ] ≡ false) ↔ Removed m (suc i)
  by None none = (
    (λ e. cc),
    λ r.
        let high = (is_read m.code good.form r.at (suc i) (ap new_read r.read)).high in
        let less : i < length marks = omega (arith, high, are.count, good.sets) in
        absurd (none-some _ (sym none ∙ (are.each i less).1 r)),
  )
  by (Some true) is = ((λ e. (are.each i (slice_get_within marks i true is)).0 is), λ r. refl)
  by (Some false) is = ((λ e. cc), λ r. absurd (differ (the_same false (sym is ∙ (are.each i (slice_get_within marks i false is)).1 r))))

pub elides : (m : Module) (marks : List Bool) → GoodModule m → AreMarks m marks → Elides m (with_marks m marks)
elides m marks good are = record {
  rest = refl;
  form = record {
    form = good.form;
    tables = record { count = good.tables.count; classes = good.tables.classes; sets = good.tables.sets };
    sets = good.sets;
    marks = are.count ∙ good.sets;
    ordered = let ordered = good.ordered in record { marks = are.count; members = ordered.members; points_rows = ordered.points_rows; points_order = ordered.points_order; reach_rows = ordered.reach_rows; reach_order = ordered.reach_order };
    points = good.points;
    facts = good.facts;
    reach = λ k row less. let is = good.reach k row less in record { point = is.point; facts = is.facts };
  };
  marks = λ r. let is = is_unchecked m marks r good are in ((λ e. to_marked m marks r (is.0 e)), λ x. is.1 (from_marked m marks r x));
}
