-- A definition has one class.
use Rattle.std.proofs.Common.{◌≡◌, ℕ, zero, suc, ◌+◌, ◌-◌, ◌<◌, ◌≤◌, inl, inr, Bool, true, false, not, ◌&&◌, ◌||◌, List, [], ◌∷◌, refl, sym, ap, ◌∙◌, subst, arith}
use Rattle.std.specs.Prelude.{count_by}
use Rattle.std.specs.Bool.{beq}
use Rattle.std.specs.List.{list_any, range_with_len}
use Rattle.std.proofs.lemmas.Bool.{cases_lt}
use Rattle.tac_ir.specs.Answers.{has}
use Rattle.flow_rules.specs.ClassOf.{ClassOf, are_alike, is_least}
use Rattle.module_law.proofs.Ascending.{both, not_both}

turned : (a b : Bool) → beq a b ≡ true → beq b a ≡ true
turned true true e = refl
turned false false e = refl
turned true false e = absurd (not_both e)
turned false true e = absurd (not_both e)

joined : (a b c : Bool) → beq a b ≡ true → beq b c ≡ true → beq a c ≡ true
joined true true true x y = refl
joined true true false x y = absurd (not_both y)
joined true false c x y = absurd (not_both x)
joined false true c x y = absurd (not_both x)
joined false false true x y = absurd (not_both y)
joined false false false x y = refl

with_both : (a b : Bool) → a ≡ true → b ≡ true → (a && b) ≡ true
with_both a b x y = ap (λ z. z && b) x ∙ y

alike_turned : (sets : List (List ℕ)) (d e : ℕ) → are_alike sets d e ≡ true → are_alike sets e d ≡ true
alike_turned [] d e h = refl
alike_turned (set ∷ sets) d e h =
    let parts = both (beq (has set d) (has set e)) (are_alike sets d e) h in
    with_both (beq (has set e) (has set d)) (are_alike sets e d) (turned (has set d) (has set e) parts.0) (alike_turned sets d e parts.1)

alike_joined : (sets : List (List ℕ)) (d e f : ℕ) → are_alike sets d e ≡ true → are_alike sets e f ≡ true → are_alike sets d f ≡ true
alike_joined [] d e f x y = refl
alike_joined (set ∷ sets) d e f x y =
    let a = both (beq (has set d) (has set e)) (are_alike sets d e) x in
    let b = both (beq (has set e) (has set f)) (are_alike sets e f) y in
    with_both (beq (has set d) (has set f)) (are_alike sets d f) (joined (has set d) (has set e) (has set f) a.0 b.0) (alike_joined sets d e f a.1 b.1)

-- some number of a range passes
some_passes : (test : ℕ → Bool) (k n i : ℕ) → k ≤ i → i < k + n → test i ≡ true → list_any test (range_with_len k n) ≡ true
some_passes test k zero i low high passes = absurd (omega (arith, low, high))
some_passes test k (suc n) i low high passes = elim (cases_lt k i) [
  | inl more ↦ later (test k) (some_passes test (k + 1) n i (omega (arith, more)) (omega (arith, high)) passes)
  | inr least ↦ (let is : i ≡ k = omega (arith, low, least) in ap (λ b. b || list_any test (range_with_len (k + 1) n)) (subst (λ z. test z ≡ true) is passes))
]
  where
    later : (b : Bool) → list_any test (range_with_len (k + 1) n) ≡ true → (b || list_any test (range_with_len (k + 1) n)) ≡ true
    later true h = refl
    later false h = h

not_less : (sets : List (List ℕ)) (d x y : ℕ) (a : ClassOf sets d x) (b : ClassOf sets d y) → a.least < b.least → ⊥
not_less sets d x y a b less =
    let alike = alike_joined sets b.least d a.least b.alike (alike_turned sets a.least d a.alike) in
    let some = some_passes (are_alike sets b.least) 1 (b.least - 1) a.least a.low (omega (arith, less)) alike in
    not_both (ap not (sym some) ∙ b.first)

pub one_class : (sets : List (List ℕ)) (d x y : ℕ) → ClassOf sets d x → ClassOf sets d y → x ≡ y
one_class sets d x y a b =
    let least : a.least ≡ b.least = elim (cases_lt a.least b.least) [
      | inl low ↦ absurd (not_less sets d x y a b low)
      | inr high ↦ elim (cases_lt b.least a.least) [ inl low ↦ absurd (not_less sets d y x b a low) | inr more ↦ omega (arith, high, more) ]
    ] in
    a.number ∙ ap (λ n. count_by (is_least sets) (range_with_len 1 n)) least ∙ sym b.number
