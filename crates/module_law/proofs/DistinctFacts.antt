-- No fact of code is listed twice.
use Rattle.std.proofs.Common.{◌≡◌, ℕ, zero, suc, Bool, true, false, ◌&&◌, ◌||◌, nat_eq, nat_lt, List, [], ◌∷◌, ◌++◌, map, Option, Some, None, refl, sym, ap, ◌∙◌, subst, arith}
use Rattle.std.specs.Prelude.{slice_get}
use Rattle.std.specs.List.{flat_map}
use Rattle.std.proofs.lemmas.Bool.{eq-eqb, eqb-true, ltb-true, ne_eqb}
use Rattle.std.proofs.Math.Dec.{eqb-suc-suc, eqb-suc-zero, eqb-zero-suc}
use Rattle.tac_ir.specs.declared.module.Fact.{Fact}
use Rattle.tac_ir.specs.Accesses.{Access, facts_by}
use Rattle.tac_ir.specs.Answers.{has}
use Rattle.tac_ir.specs.Module.{is_chain}
use Rattle.flow_rules.specs.Tables.{has_fact, has_pair, is_fact}
use Rattle.module_law.proofs.Ascending.{both, chain_below, chain_rest, chain_skip, never, not_both}

-- each pair is that of one fact
abbrev pub Distinct : List Fact → Type 0
Distinct [] = Unit {0}
Distinct (f ∷ facts) = (has_pair facts f.def f.leaf ≡ false) × Distinct facts

or_none : (a b : Bool) → (a || b) ≡ false → (a ≡ false) × (b ≡ false)
or_none true b e = absurd (not_both (sym e))
or_none false b e = (refl, e)

pair_append : (xs ys : List Fact) (d a : ℕ) → has_pair (xs ++ ys) d a ≡ (has_pair xs d a || has_pair ys d a)
pair_append [] ys d a = refl
pair_append (x ∷ xs) ys d a = ap (λ b. is_fact d a x || b) (pair_append xs ys d a) ∙ assoc (is_fact d a x) (has_pair xs d a) (has_pair ys d a) where
  assoc : (a b c : Bool) → (a || (b || c)) ≡ ((a || b) || c)
  assoc true b c = refl
  assoc false b c = refl

-- those that access has
own_none : (n : ℕ) (leaves : List ℕ) (d a : ℕ) → nat_eq n d ≡ false → has_pair (map (λ leaf. record { def = n; leaf = leaf }) leaves) d a ≡ false
own_none n [] d a other = refl
own_none n (x ∷ leaves) d a other = ap (λ b. (b && nat_eq x a) || has_pair (map (λ leaf. record { def = n; leaf = leaf }) leaves) d a) other ∙ own_none n leaves d a other

own_pair : (n : ℕ) (leaves : List ℕ) (a : ℕ) → has leaves a ≡ false → has_pair (map (λ leaf. record { def = n; leaf = leaf }) leaves) n a ≡ false
own_pair n [] a none = refl
own_pair n (x ∷ leaves) a none =
    let parts = or_none (nat_eq x a) (has leaves a) none in
    ap (λ b. (nat_eq n n && b) || has_pair (map (λ leaf. record { def = n; leaf = leaf }) leaves) n a) parts.0 ∙ clear (nat_eq n n) ∙ own_pair n leaves a parts.1
  where
    clear : (b : Bool) → ((b && false) || has_pair (map (λ leaf. record { def = n; leaf = leaf }) leaves) n a) ≡ has_pair (map (λ leaf. record { def = n; leaf = leaf }) leaves) n a
    clear true = refl
    clear false = refl

-- accesses of greater numbers have none of it
none_later : (n a : ℕ) (xs : List Access) → is_chain nat_lt (n ∷ map (λ (x : Access). x.number) xs) ≡ true → has_pair (flat_map facts_by xs) n a ≡ false
none_later n a [] chain = refl
none_later n a (x ∷ xs) chain =
    let parts = both (nat_lt n x.number) (is_chain nat_lt (map (λ (x : Access). x.number) (x ∷ xs))) chain in
    let low = ltb-true n x.number parts.0 in
    pair_append (facts_by x) (flat_map facts_by xs) n a ∙ ap (λ b. b || has_pair (flat_map facts_by xs) n a) (own_none x.number x.leaves n a (ne_eqb x.number n (λ e. omega (arith, low, e))))
    ∙ none_later n a xs (chain_skip n x.number (map (λ (x : Access). x.number) xs) low parts.1)

own_distinct : (n : ℕ) (leaves : List ℕ) (rest : List Fact) → is_chain nat_lt leaves ≡ true → ((a : ℕ) → has_pair rest n a ≡ false) → Distinct rest → Distinct (map (λ leaf. record { def = n; leaf = leaf }) leaves ++ rest)
own_distinct n [] rest chain none others = others
own_distinct n (x ∷ leaves) rest chain none others = (
  pair_append (map (λ leaf. record { def = n; leaf = leaf }) leaves) rest n x
      ∙ ap (λ b. b || has_pair rest n x) (own_pair n leaves x (never (has leaves x) (λ h. let low = chain_below x leaves chain x h in omega (arith, low)))) ∙ none x,
  own_distinct n leaves rest (chain_rest x leaves chain) none others,
)

-- accesses whose numbers ascend, and whose leaves do
abbrev pub AreAscending : List Access → Type 0
AreAscending [] = Unit {0}
AreAscending (x ∷ xs) = (is_chain nat_lt x.leaves ≡ true) × AreAscending xs

pub facts_distinct : (xs : List Access) → is_chain nat_lt (map (λ (x : Access). x.number) xs) ≡ true → AreAscending xs → Distinct (flat_map facts_by xs)
facts_distinct [] chain leaves = tt
facts_distinct (x ∷ xs) chain leaves =
    own_distinct x.number x.leaves (flat_map facts_by xs) leaves.0 (λ a. none_later x.number a xs chain) (facts_distinct xs (chain_rest x.number (map (λ (x : Access). x.number) xs) chain) leaves.1)

-- Numbers of facts.

abbrev pub fact_is : Option Fact → ℕ → ℕ → Bool
fact_is o d a = elim o [ None ↦ false | Some fact ↦ is_fact d a fact ]

fact_itself : (f : Fact) → is_fact f.def f.leaf f ≡ true
fact_itself f = ap (λ b. b && nat_eq f.leaf f.leaf) (eq-eqb f.def f.def refl) ∙ eq-eqb f.leaf f.leaf refl

not_at : (facts : List Fact) (d a j : ℕ) → has_pair facts d a ≡ false → fact_is (slice_get facts j) d a ≡ false
not_at [] d a j none = refl
not_at (f ∷ facts) d a zero none = (or_none (is_fact d a f) (has_pair facts d a) none).0
not_at (f ∷ facts) d a (suc j) none = not_at facts d a j (or_none (is_fact d a f) (has_pair facts d a) none).1

there_is : (facts : List Fact) (i : ℕ) (f : Fact) → slice_get facts i ≡ Some f → has_pair facts f.def f.leaf ≡ true
there_is [] i f is = cc
there_is (g ∷ facts) zero f is = let same : g ≡ f = cc in subst (λ h. (is_fact f.def f.leaf h || has_pair facts f.def f.leaf) ≡ true) (sym same) (ap (λ b. b || has_pair facts f.def f.leaf) (fact_itself f))
there_is (g ∷ facts) (suc i) f is = later (is_fact f.def f.leaf g) (there_is facts i f is) where
  later : (b : Bool) → has_pair facts f.def f.leaf ≡ true → (b || has_pair facts f.def f.leaf) ≡ true
  later true h = refl
  later false h = h

-- the fact of number i is that of number j where both are one
pub one_number : (facts : List Fact) → Distinct facts → (i j : ℕ) (f : Fact) → slice_get facts i ≡ Some f → fact_is (slice_get facts j) f.def f.leaf ≡ nat_eq j i
one_number [] distinct i j f is = cc
one_number (g ∷ facts) distinct zero zero f is = let same : g ≡ f = cc in subst (λ h. is_fact f.def f.leaf h ≡ true) (sym same) (fact_itself f)
one_number (g ∷ facts) distinct zero (suc j) f is =
    let same : g ≡ f = cc in
    subst (λ (h : Fact). fact_is (slice_get facts j) h.def h.leaf ≡ false) same (not_at facts g.def g.leaf j distinct.0) ∙ sym (eqb-suc-zero j)
one_number (g ∷ facts) distinct (suc i) zero f is = never (is_fact f.def f.leaf g) (λ h.
    let parts = both (nat_eq g.def f.def) (nat_eq g.leaf f.leaf) h in
    let d = eqb-true g.def f.def parts.0 in
    let a = eqb-true g.leaf f.leaf parts.1 in
    not_both (sym distinct.0 ∙ ap (λ d. has_pair facts d g.leaf) d ∙ ap (λ a. has_pair facts f.def a) a ∙ there_is facts i f is)) ∙ sym (eqb-zero-suc i)
one_number (g ∷ facts) distinct (suc i) (suc j) f is = one_number facts distinct.1 i j f is ∙ sym (eqb-suc-suc j i)

-- so numbers have a fact where they have its number
pub fact_numbers : (facts : List Fact) → Distinct facts → (numbers : List ℕ) (i : ℕ) (f : Fact) → slice_get facts i ≡ Some f → has_fact facts numbers f.def f.leaf ≡ has numbers i
fact_numbers facts distinct [] i f is = refl
fact_numbers facts distinct (j ∷ numbers) i f is = ap (λ b. b || has_fact facts numbers f.def f.leaf) (one_number facts distinct i j f is) ∙ ap (λ b. nat_eq j i || b) (fact_numbers facts distinct numbers i f is)
