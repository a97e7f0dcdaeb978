-- The first place with a gap is the first fit.
use Rattle.std.proofs.Common.{◌≡◌, ℕ, ◌+◌, ◌-◌, ◌<◌, ◌≤◌, Bool, true, false, leb, Some, None, List, [], ◌∷◌, refl, subst, arith, ◌⊎◌, inl, inr, if◌then◌else◌}
use Rattle.std.proofs.lemmas.List.Elements.{All-nil, All-cons, All-head, All-tail, All-weaker}
use Rattle.std.proofs.lemmas.Bool.Decides.{nat_tests}
use Rattle.tac_ir.specs.Desk.{Block, IsApart, IsFree, IsFirstFit}
use Rattle.heap_desk.specs.Desk.{with_block}
use Rattle.heap_desk.specs.InOrder.{IsInOrder}
use Rattle.heap_desk.specs.tools.Spans.{place_in}
use Rattle.heap_desk.proofs.Order.{bounds, starts, with_before, with_behind}

-- a place for so many words among blocks
pub record IsPlace (from limit words : ℕ) (blocks : List Block) (at : ℕ) : Type 0 where
  pub first : IsFirstFit blocks from limit words at
  pub order : IsInOrder from limit (with_block (record { at = at; words = words }) blocks)

-- a place that was chosen was one of the two
chosen : {X : Type 0} (t : Bool) (x y z : X) → (if t then x else y) ≡ z → ((t ≡ true) × (x ≡ z)) ⊎ ((t ≡ false) × (y ≡ z))
chosen true x y z e = inl (refl, e)
chosen false x y z e = inr (refl, e)

-- the place in front of all blocks
at_once : (from limit words : ℕ) (b : Block) (blocks : List Block) → 0 < words → words ≤ b.at - from → IsInOrder from limit (b ∷ blocks)
    → IsPlace from limit words (b ∷ blocks) from
at_once from limit words b blocks some room o =
    let new : Block = record { at = from; words = words } in
    let end = bounds (b.at + b.words) limit blocks o.2 in
    record {
      first = record {
        free = record {
          low = omega arith;
          high = omega arith;
          apart = All-cons (IsApart new) b blocks (inl (omega arith))
              (All-weaker (λ (c : Block). b.at + b.words ≤ c.at) (IsApart new) (λ c h. inl (omega arith)) blocks (starts (b.at + b.words) limit blocks o.2));
        };
        least = λ other less free. absurd (let low = free.low in omega arith);
      };
      order = rw (with_before new b blocks (omega arith)) (omega arith, some, (omega arith, o.1, o.2));
    }

-- a place that is free among all the blocks is free among those behind the first, where there is no room before it
behind : (from limit words at : ℕ) (b : Block) (blocks : List Block) → b.at - from < words → from ≤ b.at
    → IsFree (b ∷ blocks) from limit words at → IsFree blocks (b.at + b.words) limit words at
behind from limit words at b blocks tight low free =
    record {
      low = elim (All-head (IsApart (record { at = at; words = words })) b blocks free.apart) [
        | inl before ↦ absurd (let first = free.low in omega arith)
        | inr after ↦ after
      ];
      high = free.high;
      apart = All-tail (IsApart (record { at = at; words = words })) b blocks free.apart;
    }

-- a place among the blocks behind the first, where there is no room before it
later : (from limit words : ℕ) (b : Block) (blocks : List Block) (at : ℕ) → b.at - from < words → IsInOrder from limit (b ∷ blocks)
    → IsPlace (b.at + b.words) limit words blocks at → IsPlace from limit words (b ∷ blocks) at
later from limit words b blocks at tight o fit =
    let free = fit.first.free in
    let low = free.low in
    record {
      first = record {
        free = record {
          low = omega arith;
          high = free.high;
          apart = All-cons (IsApart (record { at = at; words = words })) b blocks (inr low) free.apart;
        };
        least = λ other less there. fit.first.least other less (behind from limit words other b blocks tight o.0 there);
      };
      order = rw (with_behind (record { at = at; words = words }) b blocks (omega arith)) (o.0, o.1, fit.order);
    }

-- the place behind all blocks
at_last : (from limit words : ℕ) → 0 < words → words ≤ limit - from → from ≤ limit → IsPlace from limit words [] from
at_last from limit words some room low =
    record {
      first = record {
        free = record { low = omega arith; high = omega arith; apart = All-nil (IsApart (record { at = from; words = words })) };
        least = λ other less free. absurd (let low = free.low in omega arith);
      };
      order = (omega arith, some, omega arith);
    }

-- a place that is found is the first fit
pub found : (from limit words : ℕ) (blocks : List Block) (at : ℕ) → 0 < words → IsInOrder from limit blocks
    → place_in from limit words blocks ≡ Some at → IsPlace from limit words blocks at
found from limit words [] at some o e =
    elim (chosen (leb words (limit - from)) (Some from) None (Some at) e) [
      | inl h ↦
          let room : words ≤ limit - from = grind (arith, nat_tests, h.0) in
          let same : from ≡ at = cc in
          let P : ℕ → Type 0 = λ a. IsPlace from limit words [] a in
          subst P same (at_last from limit words some room o)
      | inr h ↦ absurd (cc)
    ]
found from limit words (b ∷ blocks) at some o e =
    elim (chosen (leb words (b.at - from)) (Some from) (place_in (b.at + b.words) limit words blocks) (Some at) e) [
      | inl h ↦
          let room : words ≤ b.at - from = grind (arith, nat_tests, h.0) in
          let same : from ≡ at = cc in
          let P : ℕ → Type 0 = λ a. IsPlace from limit words (b ∷ blocks) a in
          subst P same (at_once from limit words b blocks some room o)
      | inr h ↦
          let tight : b.at - from < words = grind (arith, nat_tests, h.0) in
          later from limit words b blocks at tight o (found (b.at + b.words) limit words blocks at some o.2 h.1)
    ]

-- where no place is found, so many words are free nowhere
pub none_found : (from limit words : ℕ) (blocks : List Block) → 0 < words → IsInOrder from limit blocks
    → place_in from limit words blocks ≡ None → (at : ℕ) → IsFree blocks from limit words at → ⊥
none_found from limit words [] some o e at free =
    elim (chosen (leb words (limit - from)) (Some from) None None e) [
      | inl h ↦ absurd (cc)
      | inr h ↦
          let tight : limit - from < words = grind (arith, nat_tests, h.0) in
          let low = free.low in
          let high = free.high in
          omega arith
    ]
none_found from limit words (b ∷ blocks) some o e at free =
    elim (chosen (leb words (b.at - from)) (Some from) (place_in (b.at + b.words) limit words blocks) None e) [
      | inl h ↦ absurd (cc)
      | inr h ↦
          let tight : b.at - from < words = grind (arith, nat_tests, h.0) in
          none_found (b.at + b.words) limit words blocks some o.2 h.1 at (behind from limit words at b blocks tight o.0 free)
    ]
