-- Ascending lists with the same members are equal.
use Rattle.std.proofs.Common.{◌≡◌, ℕ, zero, suc, ◌+◌, ◌<◌, ◌⊎◌, inl, inr, Bool, true, false, ◌&&◌, ◌||◌, nat_eq, nat_lt, List, [], ◌∷◌, ◌++◌, length, cond, refl, sym, ap, ◌∙◌, subst, arith}
use Rattle.std.specs.Prelude.{filter}
use Rattle.std.specs.List.{range_with_len}
use Rattle.std.proofs.lemmas.Bool.{eq-eqb, eqb-true, lt-ltb, ltb-true, cases_lt}
use Rattle.tac_ir.specs.Answers.{has}
use Rattle.tac_ir.specs.Module.{is_chain}

pub both : (a b : Bool) → (a && b) ≡ true → (a ≡ true) × (b ≡ true)
both true true e = (refl, refl)
both true false e = cc
both false b e = cc

pub not_both : false ≡ true → ⊥
not_both e = cc

-- a member is the first, or among the rest
pub in_rest : (x : ℕ) (xs : List ℕ) (d : ℕ) → has (x ∷ xs) d ≡ true → (x ≡ d) ⊎ (has xs d ≡ true)
in_rest x xs d h = by (nat_eq x d) refl h where
  by : (b : Bool) → nat_eq x d ≡ b → (b || has xs d) ≡ true → (x ≡ d) ⊎ (has xs d ≡ true)
  by true is h = inl (eqb-true x d is)
  by false is h = inr h

pub has_first : (x : ℕ) (xs : List ℕ) → has (x ∷ xs) x ≡ true
has_first x xs = ap (λ b. b || has xs x) (eq-eqb x x refl)

pub chain_rest : (x : ℕ) (xs : List ℕ) → is_chain nat_lt (x ∷ xs) ≡ true → is_chain nat_lt xs ≡ true
chain_rest x [] chain = refl
chain_rest x (y ∷ ys) chain = (both (nat_lt x y) (is_chain nat_lt (y ∷ ys)) chain).1

pub chain_below : (x : ℕ) (xs : List ℕ) → is_chain nat_lt (x ∷ xs) ≡ true → (d : ℕ) → has xs d ≡ true → x < d
chain_below x [] chain d h = absurd (not_both h)
chain_below x (y ∷ ys) chain d h =
    let parts = both (nat_lt x y) (is_chain nat_lt (y ∷ ys)) chain in
    let low : x < y = ltb-true x y parts.0 in
    elim (in_rest y ys d h) [ inl is ↦ omega (arith, low, is) | inr there ↦ (let high = chain_below y ys parts.1 d there in omega (arith, low, high)) ]

pub chain_skip : (x y : ℕ) (ys : List ℕ) → x < y → is_chain nat_lt (y ∷ ys) ≡ true → is_chain nat_lt (x ∷ ys) ≡ true
chain_skip x y [] low chain = refl
chain_skip x y (z ∷ zs) low chain =
    let parts = both (nat_lt y z) (is_chain nat_lt (z ∷ zs)) chain in
    let more = ltb-true y z parts.0 in
    ap (λ b. b && is_chain nat_lt (z ∷ zs)) (lt-ltb x z (omega (arith, low, more))) ∙ parts.1

-- some of an ascending list ascend
filter_below : (test : ℕ → Bool) (x : ℕ) (xs : List ℕ) → is_chain nat_lt (x ∷ xs) ≡ true → is_chain nat_lt (x ∷ filter test xs) ≡ true
filter_below test x [] chain = refl
filter_below test x (y ∷ ys) chain =
    let parts = both (nat_lt x y) (is_chain nat_lt (y ∷ ys)) chain in
    by (test y) parts.0 (filter_below test y ys parts.1) (filter_below test x ys (chain_skip x y ys (ltb-true x y parts.0) parts.1))
  where
    by : (b : Bool) → nat_lt x y ≡ true → is_chain nat_lt (y ∷ filter test ys) ≡ true → is_chain nat_lt (x ∷ filter test ys) ≡ true → is_chain nat_lt (x ∷ cond b (y ∷ filter test ys) (filter test ys)) ≡ true
    by true low with_it without = ap (λ b. b && is_chain nat_lt (y ∷ filter test ys)) low ∙ with_it
    by false low with_it without = without

pub filter_chain : (test : ℕ → Bool) (xs : List ℕ) → is_chain nat_lt xs ≡ true → is_chain nat_lt (filter test xs) ≡ true
filter_chain test [] chain = refl
filter_chain test (x ∷ xs) chain = by (test x) (filter_below test x xs chain) where
  by : (b : Bool) → is_chain nat_lt (x ∷ filter test xs) ≡ true → is_chain nat_lt (cond b (x ∷ filter test xs) (filter test xs)) ≡ true
  by true all = all
  by false all = chain_rest x (filter test xs) all

-- these are the numbers from this one on
abbrev pub Counts : ℕ → List ℕ → Type 0
Counts k [] = Unit {0}
Counts k (x ∷ xs) = (x ≡ k) × Counts (k + 1) xs

pub counts_append : (k : ℕ) (xs ys : List ℕ) → Counts k xs → Counts (k + length xs) ys → Counts k (xs ++ ys)
counts_append k [] ys one two = subst (λ n. Counts n ys) (omega arith) two
counts_append k (x ∷ xs) ys one two = (one.0, counts_append (k + 1) xs ys one.1 (subst (λ n. Counts n ys) (omega arith) two))

pub counts_chain : (k : ℕ) (xs : List ℕ) → Counts k xs → is_chain nat_lt xs ≡ true
counts_chain k [] counts = refl
counts_chain k (x ∷ []) counts = refl
counts_chain k (x ∷ y ∷ ys) counts = ap (λ b. b && is_chain nat_lt (y ∷ ys)) (lt-ltb x y (let a = counts.0 in let b = counts.1.0 in omega (arith, a, b))) ∙ counts_chain (k + 1) (y ∷ ys) counts.1

pub range_counts : (k n : ℕ) → Counts k (range_with_len k n)
range_counts k zero = tt
range_counts k (suc n) = (refl, range_counts (k + 1) n)

same_first : (x y : ℕ) (xs ys : List ℕ) → is_chain nat_lt (x ∷ xs) ≡ true → is_chain nat_lt (y ∷ ys) ≡ true → ((d : ℕ) → has (x ∷ xs) d ≡ has (y ∷ ys) d) → x < y → ⊥
same_first x y xs ys one two same less =
    elim (in_rest y ys x (sym (same x) ∙ has_first x xs)) [ inl is ↦ (omega (arith, less, is)) | inr there ↦ (let low = chain_below y ys two x there in omega (arith, low, less)) ]

pub never : (b : Bool) → (b ≡ true → ⊥) → b ≡ false
never true refuted = absurd (refuted refl)
never false refuted = refl

not_there : (x : ℕ) (xs : List ℕ) → is_chain nat_lt (x ∷ xs) ≡ true → has xs x ≡ false
not_there x xs chain = never (has xs x) (λ h. let low = chain_below x xs chain x h in omega (arith, low))

pub same_lists : (xs ys : List ℕ) → is_chain nat_lt xs ≡ true → is_chain nat_lt ys ≡ true → ((d : ℕ) → has xs d ≡ has ys d) → xs ≡ ys
same_lists [] [] one two same = refl
same_lists [] (y ∷ ys) one two same = absurd (not_both (same y ∙ has_first y ys))
same_lists (x ∷ xs) [] one two same = absurd (not_both (sym (same x) ∙ has_first x xs))
same_lists (x ∷ xs) (y ∷ ys) one two same =
    let not_less = same_first x y xs ys one two same in
    let not_more = same_first y x ys xs two one (λ d. sym (same d)) in
    let first : x ≡ y = elim (cases_lt x y) [ inl low ↦ absurd (not_less low) | inr high ↦ elim (cases_lt y x) [ inl low ↦ absurd (not_more low) | inr more ↦ omega (arith, high, more) ] ] in
    let there : has ys x ≡ false = subst (λ z. has ys z ≡ false) (sym first) (not_there y ys two) in
    let rest = same_lists xs ys (chain_rest x xs one) (chain_rest y ys two) (λ d. by (nat_eq x d) d refl there) in
    λ i. first i ∷ rest i
  where
    by : (b : Bool) (d : ℕ) → nat_eq x d ≡ b → has ys x ≡ false → has xs d ≡ has ys d
    by true d is there =
        let e : x ≡ d = eqb-true x d is in
        subst (λ z. has xs z ≡ has ys z) e (not_there x xs one ∙ sym there)
    by false d is there =
        let other : nat_eq y d ≡ false = elim (cases_lt x y) [ inl low ↦ absurd (same_first x y xs ys one two same low) | inr high ↦ elim (cases_lt y x) [ inl low ↦ absurd (same_first y x ys xs two one (λ d. sym (same d)) low) | inr more ↦ subst (λ z. nat_eq z d ≡ false) (omega (arith, high, more)) is ] ] in
        ap (λ b. b || has xs d) (sym is) ∙ same d ∙ ap (λ b. b || has ys d) other
