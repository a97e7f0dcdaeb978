-- Keys of two numbers leave enough greater keys.
use Rattle.std.proofs.Common.{◌≡◌, ℕ, zero, suc, ◌+◌, ◌-◌, ◌*◌, ◌^◌, ◌<◌, ◌≤◌, ◌⊎◌, inl, inr, Bool, true, false, List, [], ◌∷◌, ◌++◌, length, refl, sym, ap, subst, ◌∙◌, append_assoc, arith}
use Rattle.std.specs.Prelude.{nat_le, nat_eq, nat_lt, if◌then◌else◌}
use Rattle.std.specs.Fmt.{decimal}
use Rattle.std.proofs.lemmas.Bool.{leb-true, leb-false, ltb-true, ltb-false, eqb-true, eqb-false}
use Rattle.line_format.specs.tools.Format.{Format, give, byte, chain, loop, Has}
use Rattle.line_format.specs.Lines.{greatest}
use Rattle.line_format.specs.tools.Number.{number_and}
use Rattle.line_format.specs.tools.Keys.{Pair, after_pair, least_second, most_first, most_second, pair_key}
use Rattle.line_format.proofs.Formats.{Good}
use Rattle.line_format.proofs.Spelling.{and_good, and_text, and_is}

-- not before the least
abbrev pub From : Pair → Pair → Type 0
From least k = ((least.0 < k.0) ⊎ ((least.0 ≡ k.0) × (least.1 ≤ k.1))) × (k.0 ≤ greatest) × (k.1 ≤ greatest)

-- so many keys are greater; no count is greater than greatest
abbrev pub Room : Pair → ℕ → Type 0
Room k owed = (k.0 < greatest) ⊎ (k.1 + owed ≤ greatest)

-- some key from the least on has room
abbrev pub Open : Pair → ℕ → Type 0
Open least owed = (least.1 ≤ greatest) × (owed ≤ greatest) × ((least.0 < greatest) ⊎ ((least.0 ≡ greatest) × (least.1 + owed ≤ greatest)))

second_by : (least : Pair) (f : ℕ) (b : Bool) → nat_eq f least.0 ≡ b
    → ((f ≡ least.0) × (least_second least f ≡ least.1)) ⊎ ((f ≡ least.0 → ⊥) × (least_second least f ≡ 0))
second_by least f true e = inl (eqb-true f least.0 e, ap (λ b. if b then least.1 else 0) e)
second_by least f false e = inr (eqb-false f least.0 e, ap (λ b. if b then least.1 else 0) e)

first_by : (least : Pair) (owed : ℕ) (b : Bool) → nat_le (least_second least greatest + owed) greatest ≡ b
    → ((least_second least greatest + owed ≤ greatest) × (most_first least owed ≡ greatest)) ⊎ ((greatest < least_second least greatest + owed) × (most_first least owed ≡ greatest - 1))
first_by least owed true e = inl (leb-true _ greatest e, ap (λ b. if b then greatest else greatest - 1) e)
first_by least owed false e = inr (leb-false _ greatest e, ap (λ b. if b then greatest else greatest - 1) e)

most_by : (f owed : ℕ) (b : Bool) → nat_lt f greatest ≡ b → ((f < greatest) × (most_second f owed ≡ greatest)) ⊎ ((greatest ≤ f) × (most_second f owed ≡ greatest - owed))
most_by f owed true e = inl (ltb-true f greatest e, ap (λ b. if b then greatest else greatest - owed) e)
most_by f owed false e = inr (ltb-false f greatest e, ap (λ b. if b then greatest else greatest - owed) e)

module _ (least : Pair) (owed : ℕ) where
  first_is : ((least_second least greatest + owed ≤ greatest) × (most_first least owed ≡ greatest)) ⊎ ((greatest < least_second least greatest + owed) × (most_first least owed ≡ greatest - 1))
  first_is = first_by least owed (nat_le (least_second least greatest + owed) greatest) refl

  second_is : (f : ℕ) → ((f ≡ least.0) × (least_second least f ≡ least.1)) ⊎ ((f ≡ least.0 → ⊥) × (least_second least f ≡ 0))
  second_is f = second_by least f (nat_eq f least.0) refl

  most_is : (f : ℕ) → ((f < greatest) × (most_second f owed ≡ greatest)) ⊎ ((greatest ≤ f) × (most_second f owed ≡ greatest - owed))
  most_is f = most_by f owed (nat_lt f greatest) refl

  -- the range of the first number, and that of the second behind each first
  pub first_range : Open least owed → (least.0 ≤ most_first least owed) × (most_first least owed ≤ greatest)
  first_range (low, few, way) = grind (arith, first_is, second_is greatest, low, few, way)

  pub second_range : Open least owed → (f : ℕ) → least.0 ≤ f → f ≤ most_first least owed → (least_second least f ≤ most_second f owed) × (most_second f owed ≤ greatest)
  second_range (low, few, way) f l h = grind (arith, first_is, second_is greatest, second_is f, most_is f, low, few, way, l, h)

  pub pair_good : Open least owed → Good (pair_key least owed)
  pair_good way =
      let (l, h) = first_range way in (
        and_good 32 least.0 (most_first least owed) refl (omega arith) l,
        λ f (ts, r, g).
            let (low, high, w) = and_is 32 least.0 (most_first least owed) refl (omega arith) ts f r g in
            let (p, q) = second_range way f low high in
            (and_good 32 (least_second least f) (most_second f owed) refl (omega arith) p, λ i g. tt),
      )

  -- a key of the format is one from the least on with room, and the other way round
  pub key_in : Open least owed → (f i : ℕ) → least.0 ≤ f → f ≤ most_first least owed → least_second least f ≤ i → i ≤ most_second f owed → From least (f, i) × Room (f, i) owed
  key_in (low, few, way) f i a b c d = grind (arith, first_is, second_is greatest, second_is f, most_is f, low, few, way, a, b, c, d)

  pub in_key : Open least owed → (f i : ℕ) → From least (f, i) → Room (f, i) owed → (least.0 ≤ f) × (f ≤ most_first least owed) × (least_second least f ≤ i) × (i ≤ most_second f owed)
  in_key (low, few, way) f i (from, p, q) room = grind (arith, first_is, second_is greatest, second_is f, most_is f, low, few, way, from, p, q, room)

pub after_by : (k : Pair) (b : Bool) → nat_lt k.1 greatest ≡ b → ((k.1 < greatest) × (after_pair k ≡ (k.0, suc k.1))) ⊎ ((greatest ≤ k.1) × (after_pair k ≡ (suc k.0, 0)))
after_by k true e = inl (ltb-true k.1 greatest e, ap (λ b. if b then (k.0, suc k.1) else (suc k.0, 0)) e)
after_by k false e = inr (ltb-false k.1 greatest e, ap (λ b. if b then (k.0, suc k.1) else (suc k.0, 0)) e)

-- k stands before j
abbrev pub Before : Pair → Pair → Type 0
Before k j = (k.0 < j.0) ⊎ ((k.0 ≡ j.0) × (k.1 < j.1))

pub from_after : (k j : Pair) → k.1 ≤ greatest → j.1 ≤ greatest → From (after_pair k) j → Before k j
from_after k j small less f = by (after_by k (nat_lt k.1 greatest) refl) f
  where
    by : ((k.1 < greatest) × (after_pair k ≡ (k.0, suc k.1))) ⊎ ((greatest ≤ k.1) × (after_pair k ≡ (suc k.0, 0))) → From (after_pair k) j → Before k j
    by (inl (h, e)) f = let g : From (k.0, suc k.1) j = subst (λ z. From z j) e f in grind (arith, g.0)
    by (inr (h, e)) f = let g : From (suc k.0, 0) j = subst (λ z. From z j) e f in grind (arith, g.0)

-- behind a key with room for one row more, the rest has room
pub next_open : (k : Pair) (owed : ℕ) → k.0 ≤ greatest → k.1 ≤ greatest → suc owed ≤ greatest → Room k (suc owed) → Open (after_pair k) owed
next_open k owed a b few room = by (after_by k (nat_lt k.1 greatest) refl)
  where
    by : ((k.1 < greatest) × (after_pair k ≡ (k.0, suc k.1))) ⊎ ((greatest ≤ k.1) × (after_pair k ≡ (suc k.0, 0))) → Open (after_pair k) owed
    by (inl (h, e)) = subst (λ z. Open z owed) (sym e) (omega arith, omega arith, grind (arith, room, a))
    by (inr (h, e)) = subst (λ z. Open z owed) (sym e) (omega arith, omega arith, grind (arith, room, a, b))

abbrev pub Keys : Pair → List Pair → Type 0
Keys least [] = Unit {0}
Keys least (k ∷ ks) = From least k × Keys (after_pair k) ks

-- keys that ascend leave room for those behind
pub room_of : (k : Pair) (ks : List Pair) → k.0 ≤ greatest → k.1 ≤ greatest → length ks ≤ greatest → Keys (after_pair k) ks → Room k (length ks)
room_of k [] a b few u = inr (omega arith)
room_of k (j ∷ ks) a b few (f, rest) =
    let before : Before k j = from_after k j b f.2 f in
    let room : Room j (length ks) = room_of j ks f.1 f.2 (omega arith) rest in
    grind (arith, before, room, f.1)
