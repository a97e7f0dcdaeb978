-- Blocks in order lie in their bounds and apart, and a new one keeps them in order.
use Rattle.std.proofs.Common.{◌≡◌, ℕ, ◌+◌, ◌<◌, ◌≤◌, Bool, true, false, nat_lt, nat_eq, ◌||◌, List, [], ◌∷◌, refl, arith, inl, ap}
use Rattle.std.specs.List.{All}
use Rattle.std.proofs.lemmas.List.Elements.{All-nil, All-cons, All-weaker}
use Rattle.std.proofs.lemmas.Bool.Decides.{nat_tests}
use Rattle.tac_ir.specs.Desk.{Block, IsApart, without, begins_block}
use Rattle.heap_desk.specs.Desk.{with_block}
use Rattle.heap_desk.specs.Heap.{AreApart, LiesBetween, AreInHeap}
use Rattle.heap_desk.specs.InOrder.{IsInOrder}

-- the bounds are in order
pub bounds : (from limit : ℕ) (blocks : List Block) → IsInOrder from limit blocks → from ≤ limit
bounds from limit [] o = o
bounds from limit (b ∷ blocks) o = let rest = bounds (b.at + b.words) limit blocks o.2 in omega arith

pub starts : (from limit : ℕ) (blocks : List Block) → IsInOrder from limit blocks → All (λ (b : Block). from ≤ b.at) blocks
starts from limit [] o = All-nil (λ (b : Block). from ≤ b.at)
starts from limit (b ∷ blocks) o =
    All-cons (λ (c : Block). from ≤ c.at) b blocks o.0
    (All-weaker (λ (c : Block). b.at + b.words ≤ c.at) (λ (c : Block). from ≤ c.at) (λ c h. omega arith) blocks (starts (b.at + b.words) limit blocks o.2))

pub inside : (from limit : ℕ) (blocks : List Block) → IsInOrder from limit blocks → All (LiesBetween from limit) blocks
inside from limit [] o = All-nil (LiesBetween from limit)
inside from limit (b ∷ blocks) o =
    let behind = bounds (b.at + b.words) limit blocks o.2 in
    All-cons (LiesBetween from limit) b blocks (o.0, behind)
    (All-weaker (LiesBetween (b.at + b.words) limit) (LiesBetween from limit) (λ c h. (omega arith, h.1)) blocks (inside (b.at + b.words) limit blocks o.2))

pub apart : (from limit : ℕ) (blocks : List Block) → IsInOrder from limit blocks → AreApart blocks
apart from limit [] o = tt
apart from limit (b ∷ blocks) o = (
  All-weaker (λ (c : Block). b.at + b.words ≤ c.at) (IsApart b) (λ c h. inl h) blocks (starts (b.at + b.words) limit blocks o.2),
  apart (b.at + b.words) limit blocks o.2,
)

some : (from limit : ℕ) (blocks : List Block) → IsInOrder from limit blocks → All (λ (b : Block). 0 < b.words) blocks
some from limit [] o = All-nil (λ (b : Block). 0 < b.words)
some from limit (b ∷ blocks) o = All-cons (λ (c : Block). 0 < c.words) b blocks o.1 (some (b.at + b.words) limit blocks o.2)

pub heap : (from limit : ℕ) (blocks : List Block) → IsInOrder from limit blocks → AreInHeap from limit blocks
heap from limit blocks o = record { inside = inside from limit blocks o; some = some from limit blocks o; apart = apart from limit blocks o }

-- a new block goes before the first one that begins behind it
pub with_before : (new b : Block) (blocks : List Block) → new.at < b.at → with_block new (b ∷ blocks) ≡ new ∷ b ∷ blocks
with_before new b blocks h = let before : nat_lt new.at b.at ≡ true = grind (arith, nat_tests) in rw (before, with_block) refl

pub with_behind : (new b : Block) (blocks : List Block) → b.at ≤ new.at → with_block new (b ∷ blocks) ≡ b ∷ with_block new blocks
with_behind new b blocks h = let behind : nat_lt new.at b.at ≡ false = grind (arith, nat_tests) in rw (behind, with_block) refl

-- where no block begins at a word, none goes
pub without_none : (w : ℕ) (blocks : List Block) → begins_block w blocks ≡ false → without w blocks ≡ blocks
without_none w [] h = refl
without_none w (b ∷ blocks) h = go (nat_eq b.at w) (begins_block w blocks) (without_none w blocks) h
  where
    go : (here there : Bool) (rest : there ≡ false → without w blocks ≡ blocks) → (here || there) ≡ false
        → elim here [ true ↦ without w blocks | false ↦ b ∷ without w blocks ] ≡ b ∷ blocks
    go true there rest h = absurd (cc)
    go false there rest h = ap (λ bs. b ∷ bs) (rest h)

-- blocks that begin behind a word do not begin there
pub begins_none : (w from limit : ℕ) (blocks : List Block) → w < from → IsInOrder from limit blocks → begins_block w blocks ≡ false
begins_none w from limit [] h o = refl
begins_none w from limit (b ∷ blocks) h o =
    let other : nat_eq b.at w ≡ false = grind (arith, nat_tests) in
    rw (other, begins_block) (begins_none w (b.at + b.words) limit blocks (omega arith) o.2)

-- order does not depend on how far below the blocks the lower bound is
lower : (low from limit : ℕ) (blocks : List Block) → low ≤ from → IsInOrder from limit blocks → IsInOrder low limit blocks
lower low from limit [] h o = omega arith
lower low from limit (b ∷ blocks) h o = (omega arith, o.1, o.2)

-- blocks stay in order where some go
pub order_without : (w from limit : ℕ) (blocks : List Block) → IsInOrder from limit blocks → IsInOrder from limit (without w blocks)
order_without w from limit [] o = o
order_without w from limit (b ∷ blocks) o = go (nat_eq b.at w) (order_without w (b.at + b.words) limit blocks o.2)
  where
    go : (here : Bool) → IsInOrder (b.at + b.words) limit (without w blocks)
        → IsInOrder from limit (elim here [ true ↦ without w blocks | false ↦ b ∷ without w blocks ])
    go true rest = lower from (b.at + b.words) limit (without w blocks) (omega arith) rest
    go false rest = (o.0, o.1, rest)
