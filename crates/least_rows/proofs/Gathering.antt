-- What is gathered from the rows of a table, a row at a time.
use Rattle.std.proofs.Common.{◌≡◌, ℕ, zero, suc, ◌+◌, ◌<◌, ◌≤◌, Bool, true, false, ◌&&◌, ◌||◌, Some, List, [], ◌∷◌, ◌++◌, length, get_or, set, take, refl, sym, ap, ◌∙◌, subst, IsTrue, Contains, inl, inr, ◌⊎◌, ◌↔◌, arith, true≢false}
use Rattle.std.proofs.lemmas.List.{get_or-set_same, take_more}
use Rattle.std.proofs.lemmas.List.Elements.{Contains-push, Contains-push_cases, Contains-append_left}
use Rattle.std.specs.Prelude.{slice_get}
use Rattle.dfi_base.specs.Bits.{has, joined}
use Rattle.dfi_base.proofs.RowLaws.{and_parts}
use Rattle.least_rows.specs.declared.rules.Rule.{Rule}
use Rattle.least_rows.specs.declared.rules.System.{System}
use Rattle.least_rows.specs.declared.index.Loading.{Loading}
use Rattle.least_rows.specs.Rules.{Table, row_of, row_has}
use Rattle.least_rows.specs.tools.Reads.{LoadsFrom, Reads}
use Rattle.least_rows.specs.tools.Growing.{IsIndexOf, IsWritten}

-- an item, whatever the default
pub item : {X : Type 0} (xs : List X) (i : ℕ) (d e : X) → i < length xs → get_or xs i d ≡ get_or xs i e
item [] i d e within = absurd (omega (arith, within))
item (x ∷ xs) zero d e within = refl
item (x ∷ xs) (suc i) d e within = item xs i d e (omega (arith, within))

pub past : {X : Type 0} (xs : List X) (i : ℕ) (d : X) → length xs ≤ i → get_or xs i d ≡ d
past [] zero d behind = refl
past [] (suc i) d behind = refl
past (x ∷ xs) zero d behind = absurd (omega (arith, behind))
past (x ∷ xs) (suc i) d behind = past xs i d (omega (arith, behind))

pub row_is : (t : Table) (r : ℕ) (row : List Bool) → r < length t → row ≡ get_or t r row → row ≡ row_of t r
row_is t r row within is = is ∙ item t r row [] within

pub list_is : (lists : List (List ℕ)) (r : ℕ) (list : List ℕ) → r < length lists → list ≡ get_or lists r list → list ≡ get_or lists r []
list_is lists r list within is = is ∙ item lists r list [] within

pub lt_or : (a b : ℕ) → (a < b) ⊎ (b ≤ a)
lt_or a zero = inr (omega arith)
lt_or zero (suc b) = inl (omega arith)
lt_or (suc a) (suc b) = elim (lt_or a b) [ inl less ↦ inl (omega (arith, less)) | inr more ↦ inr (omega (arith, more)) ]

either : (b c : Bool) → (b || c) ≡ true → (b ≡ true) ⊎ (c ≡ true)
either true c is = inl refl
either false c is = inr is

or_left : (b c : Bool) → b ≡ true → (b || c) ≡ true
or_left b c is = ap (λ x. x || c) is

or_right : (b c : Bool) → c ≡ true → (b || c) ≡ true
or_right true c is = refl
or_right false c is = is

pub or_none : (b c : Bool) → c ≡ false → b ≡ (b || c)
or_none true c is = refl
or_none false c is = sym is

pub both_true : (b c : Bool) → b ≡ true → c ≡ true → (b && c) ≡ true
both_true true c one two = two
both_true false c one two = one

-- what the sources before this one have
abbrev pub LoadedBelow : Table → ℕ → ℕ → List Bool → Type 0
LoadedBelow t sources at asked =
    (k : ℕ) → IsTrue (has asked k) ↔ ((from : ℕ) × (from < at) × IsTrue (row_has t sources from) × IsTrue (row_has t from k))

pub loaded_more : (t : Table) (sources at from : ℕ) (asked new : List Bool) → at ≤ from → row_has t sources from ≡ true
    → ((k : ℕ) → at ≤ k → k < from → row_has t sources k ≡ false) → ((k : ℕ) → has new k ≡ (has asked k || row_has t from k))
    → LoadedBelow t sources at asked → LoadedBelow t sources (from + 1) new
loaded_more t sources at from asked new low is none made before k = (there, back)
  where
    there : IsTrue (has new k) → (x : ℕ) × (x < from + 1) × IsTrue (row_has t sources x) × IsTrue (row_has t x k)
    there had = elim (either (has asked k) (row_has t from k) (sym (made k) ∙ had)) [
      | inl old ↦ let one = (before k).0 old in (one.0, omega (arith, one.1, low), one.2, one.3)
      | inr new ↦ (from, omega arith, is, new)
    ]

    back : ((x : ℕ) × (x < from + 1) × IsTrue (row_has t sources x) × IsTrue (row_has t x k)) → IsTrue (has new k)
    back one = elim (lt_or one.0 at) [
      | inl early ↦ made k ∙ or_left (has asked k) (row_has t from k) ((before k).1 (one.0, early, one.2, one.3))
      | inr late ↦ elim (lt_or one.0 from) [
        | inl gap ↦ absurd (true≢false (sym one.2 ∙ none one.0 late gap))
        | inr behind ↦
            let same : one.0 ≡ from = omega (arith, behind, one.1) in
            made k ∙ or_right (has asked k) (row_has t from k) (subst (λ x. row_has t x k ≡ true) same one.3)
      ]
    ]

-- what these rows have in common
abbrev pub InAll : Table → List ℕ → List Bool → Type 0
InAll t rows asked = (k : ℕ) → IsTrue (has asked k) ↔ ((from : ℕ) → Contains rows from → IsTrue (row_has t from k))

pub meet_more : (t : Table) (rows : List ℕ) (from : ℕ) (asked new : List Bool) → ((k : ℕ) → has new k ≡ (has asked k && row_has t from k))
    → InAll t rows asked → InAll t (rows ++ from ∷ []) new
meet_more t rows from asked new made before k = (there, back)
  where
    there : IsTrue (has new k) → (x : ℕ) → Contains (rows ++ from ∷ []) x → IsTrue (row_has t x k)
    there had x one =
        let both = and_parts (has asked k) (row_has t from k) (sym (made k) ∙ had) in
        elim (Contains-push_cases rows from x one) [
          | inl old ↦ (before k).0 both.0 x old
          | inr same ↦ subst (λ y. row_has t y k ≡ true) same both.1
        ]

    back : ((x : ℕ) → Contains (rows ++ from ∷ []) x → IsTrue (row_has t x k)) → IsTrue (has new k)
    back all =
        made k
        ∙ both_true (has asked k) (row_has t from k) ((before k).1 (λ x old. all x (Contains-append_left rows (from ∷ []) x old)))
        (all from (Contains-push rows from))

pub meet_turn : (t : Table) (first i from : ℕ) (rest : List ℕ) (asked new : List Bool) → i < length rest → from ≡ get_or rest i from
    → ((k : ℕ) → has new k ≡ (has asked k && row_has t from k)) → InAll t (first ∷ take i rest) asked → InAll t (first ∷ take (i + 1) rest) new
meet_turn t first i from rest asked new within is made before =
    subst (λ l. InAll t (first ∷ l) new) (sym (take_more rest i from within ∙ ap (λ x. take i rest ++ x ∷ []) (sym is)))
    (meet_more t (first ∷ take i rest) from asked new made before)

-- the rules that a write has woken
pub write_done : (s : System) (t : Table) (waiting waking : List Bool) (to : ℕ) (more new : List Bool) (lists : List (List ℕ)) (loading : List Loading)
    (changed : Bool) → IsIndexOf s lists loading → to < length t → new ≡ joined (row_of t to) more → (new ≡ row_of t to → changed ≡ false) → changed ≡ true
    → length waking ≡ length waiting
    → ((i : ℕ) → IsTrue (has waiting i) → IsTrue (has waking i))
    → ((i : ℕ) → Contains (get_or lists to []) i → IsTrue (has waking i))
    → ((i sources : ℕ) → Contains loading (record { rule = i; sources = sources }) → IsTrue (row_has (set t to new) sources to) → IsTrue (has waking i))
    → IsWritten s t waiting to more (set t to new) waking changed
write_done s t waiting waking to more new lists loading changed index within is tells moved long kept readers loads = record {
  table = ap (set t to) is;
  tells = (
    λ still. absurd (true≢false (sym moved ∙ still)),
    λ same. tells (sym (get_or-set_same t to new [] within) ∙ ap (λ x. row_of x to) same),
  );
  long = long;
  kept = kept;
  same = λ still. absurd (true≢false (sym moved ∙ still));
  woken = λ m i rule at reads. by i rule at reads;
}
  where
    by_load : (i : ℕ) (rule : Rule) → slice_get s.rules i ≡ Some rule → LoadsFrom (set t to new) rule to → IsTrue (has waking i)
    by_load i (Rule.Has row member) at none = absurd none
    by_load i (Rule.Flow from mask x) at none = absurd none
    by_load i (Rule.Shift from mask far x) at none = absurd none
    by_load i (Rule.Meet first rest x) at none = absurd none
    by_load i (Rule.Guard test member from x) at none = absurd none
    by_load i (Rule.Store targets from) at none = absurd none
    by_load i (Rule.Load sources x) at had = loads i sources (index.loads i sources x at) had

    by : (i : ℕ) (rule : Rule) → slice_get s.rules i ≡ Some rule → Reads (set t to new) rule to → IsTrue (has waking i)
    by i rule at (inl one) = readers i (index.readers i rule to at one)
    by i rule at (inr load) = by_load i rule at load
