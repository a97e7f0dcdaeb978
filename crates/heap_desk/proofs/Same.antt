-- What two lists of the same blocks have in common: everything that the run asks of its live blocks.
use Rattle.std.proofs.Common.{◌≡◌, ℕ, zero, suc, ◌<◌, Bool, true, false, nat_eq, nat_lt, ◌||◌, List, [], ◌∷◌, refl, sym, ap, subst, ◌∙◌, arith, ◌⊎◌, inl, inr}
use Rattle.std.specs.List.{All, Contains}
use Rattle.std.proofs.lemmas.List.Elements.{All-contains, All-contains_itself, All-weaker}
use Rattle.std.proofs.lemmas.Bool.Decides.{nat_tests}
use Rattle.tac_ir.specs.Desk.{Block, IsApart, IsFree, IsFirstFit, begins_block, without}
use Rattle.heap_desk.specs.Desk.{with_block}
use Rattle.heap_desk.specs.SameBlocks.{HasSameBlocks}

-- Members of a list with one more in front.

pub contains_cases : (x : Block) (xs : List Block) (b : Block) → Contains (x ∷ xs) b → (x ≡ b) ⊎ Contains xs b
contains_cases x xs b (zero, in_range, is) = inl is
contains_cases x xs b (suc k, in_range, is) = inr (k, omega arith, is)

pub contains_here : (x : Block) (xs : List Block) → Contains (x ∷ xs) x
contains_here x xs = (0, omega arith, refl)

contains_there : (x : Block) (xs : List Block) (b : Block) → Contains xs b → Contains (x ∷ xs) b
contains_there x xs b h = (suc h.0, (let in_range = h.1 in omega arith), h.2)

contains_same : (x : Block) (xs : List Block) (b : Block) → x ≡ b → Contains (x ∷ xs) b
contains_same x xs b same = let P : Block → Type 0 = λ c. Contains (x ∷ xs) c in subst P same (contains_here x xs)

-- The relation.

pub same_refl : (xs : List Block) → HasSameBlocks xs xs
same_refl xs = record { to = λ b h. h; from = λ b h. h }

pub same_sym : {xs ys : List Block} → HasSameBlocks xs ys → HasSameBlocks ys xs
same_sym s = record { to = s.from; from = s.to }

pub same_trans : {xs ys zs : List Block} → HasSameBlocks xs ys → HasSameBlocks ys zs → HasSameBlocks xs zs
same_trans s t = record { to = λ b h. t.to b (s.to b h); from = λ b h. s.from b (t.from b h) }

cons_to : (x : Block) (xs ys : List Block) → ((b : Block) → Contains xs b → Contains ys b) → (b : Block) → Contains (x ∷ xs) b → Contains (x ∷ ys) b
cons_to x xs ys to b h =
    elim (contains_cases x xs b h) [ inl same ↦ contains_same x ys b same | inr there ↦ contains_there x ys b (to b there) ]

pub same_cons : (x : Block) {xs ys : List Block} → HasSameBlocks xs ys → HasSameBlocks (x ∷ xs) (x ∷ ys)
same_cons x {xs} {ys} s = record { to = cons_to x xs ys s.to; from = cons_to x ys xs s.from }

swap_to : (x y : Block) (xs : List Block) (b : Block) → Contains (x ∷ y ∷ xs) b → Contains (y ∷ x ∷ xs) b
swap_to x y xs b h =
    elim (contains_cases x (y ∷ xs) b h) [
      | inl same ↦ contains_there y (x ∷ xs) b (contains_same x xs b same)
      | inr there ↦ elim (contains_cases y xs b there) [
        | inl same ↦ contains_same y (x ∷ xs) b same
        | inr rest ↦ contains_there y (x ∷ xs) b (contains_there x xs b rest)
      ]
    ]

same_swap : (x y : Block) (xs : List Block) → HasSameBlocks (x ∷ y ∷ xs) (y ∷ x ∷ xs)
same_swap x y xs = record { to = swap_to x y xs; from = swap_to y x xs }

-- a block that is put in order of places is one more block
pub same_with : (new : Block) (blocks : List Block) → HasSameBlocks (new ∷ blocks) (with_block new blocks)
same_with new [] = same_refl (new ∷ [])
same_with new (b ∷ blocks) = go (nat_lt new.at b.at) (same_with new blocks)
  where
    go : (before : Bool) → HasSameBlocks (new ∷ blocks) (with_block new blocks)
        → HasSameBlocks (new ∷ b ∷ blocks) (elim before [ true ↦ new ∷ b ∷ blocks | false ↦ b ∷ with_block new blocks ])
    go true rest = same_refl (new ∷ b ∷ blocks)
    go false rest = same_trans (same_swap new b blocks) (same_cons b rest)

-- What is asked of blocks.

all_same : (P : Block → Type 0) {xs ys : List Block} → HasSameBlocks xs ys → All P xs → All P ys
all_same P {xs} {ys} s all = All-weaker (Contains ys) P (λ b there. All-contains P xs b all (s.from b there)) ys (All-contains_itself ys)

pub free_same : {xs ys : List Block} (from limit words at : ℕ) → HasSameBlocks xs ys → IsFree xs from limit words at → IsFree ys from limit words at
free_same from limit words at s free =
    record { low = free.low; high = free.high; apart = all_same (IsApart (record { at = at; words = words })) s free.apart }

pub first_fit_same : {xs ys : List Block} (from limit words at : ℕ) → HasSameBlocks xs ys → IsFirstFit xs from limit words at → IsFirstFit ys from limit words at
first_fit_same from limit words at s fit =
    record {
      free = free_same from limit words at s fit.free;
      least = λ other less free. fit.least other less (free_same from limit words other (same_sym s) free);
    }

-- there is one first fit
pub one_fit : (blocks : List Block) (from limit words a b : ℕ) → IsFirstFit blocks from limit words a → IsFirstFit blocks from limit words b → a ≡ b
one_fit blocks from limit words a b fit other =
    let not_before = λ (h : a < b). other.least a h fit.free in
    let not_behind = λ (h : b < a). fit.least b h other.free in
    grind (arith, not_before, not_behind)

-- a block begins at a word where one of the list does
pub begins_at : (w : ℕ) (xs : List Block) (b : Block) → Contains xs b → b.at ≡ w → begins_block w xs ≡ true
begins_at w [] b h same = absurd (let in_range = h.1 in omega arith)
begins_at w (x ∷ xs) b h same =
    elim (contains_cases x xs b h) [
      | inl here ↦
          let first : x.at ≡ w = ap (λ (c : Block). c.at) here ∙ same in
          let found : nat_eq x.at w ≡ true = grind (arith, nat_tests) in
          rw (found, begins_block) refl
      | inr there ↦ either (nat_eq x.at w) (begins_block w xs) (begins_at w xs b there same)
    ]
  where
    either : (p q : Bool) → q ≡ true → (p || q) ≡ true
    either true q h = refl
    either false q h = h

begun : (w : ℕ) (xs : List Block) → begins_block w xs ≡ true → (b : Block) × Contains xs b × (b.at ≡ w)
begun w [] h = absurd (cc)
begun w (x ∷ xs) h = go (nat_eq x.at w) refl (begun w xs) h
  where
    go : (here : Bool) → nat_eq x.at w ≡ here → (begins_block w xs ≡ true → (b : Block) × Contains xs b × (b.at ≡ w))
        → (here || begins_block w xs) ≡ true → (b : Block) × Contains (x ∷ xs) b × (b.at ≡ w)
    go true e rest h = (x, contains_here x xs, grind (arith, nat_tests))
    go false e rest h = let found = rest h in (found.0, contains_there x xs found.0 found.1, found.2)

pub begins_same : {xs ys : List Block} (w : ℕ) → HasSameBlocks xs ys → begins_block w xs ≡ begins_block w ys
begins_same {xs} {ys} w s =
    both (begins_block w xs) (begins_block w ys)
    (λ h. let found = begun w xs h in begins_at w ys found.0 (s.to found.0 found.1) found.2)
    (λ h. let found = begun w ys h in begins_at w xs found.0 (s.from found.0 found.1) found.2)
  where
    both : (p q : Bool) → (p ≡ true → q ≡ true) → (q ≡ true → p ≡ true) → p ≡ q
    both true q to from = sym (to refl)
    both false true to from = from refl
    both false false to from = refl

-- what is left without the blocks that begin at a word
left_is : (w : ℕ) (xs : List Block) (b : Block) → Contains (without w xs) b → Contains xs b × (nat_eq b.at w ≡ false)
left_is w [] b h = absurd (let in_range = h.1 in omega arith)
left_is w (x ∷ xs) b h = go (nat_eq x.at w) refl (left_is w xs b) h
  where
    go : (here : Bool) → nat_eq x.at w ≡ here → (Contains (without w xs) b → Contains xs b × (nat_eq b.at w ≡ false))
        → Contains (elim here [ true ↦ without w xs | false ↦ x ∷ without w xs ]) b → Contains (x ∷ xs) b × (nat_eq b.at w ≡ false)
    go true e rest h = let found = rest h in (contains_there x xs b found.0, found.1)
    go false e rest h =
        elim (contains_cases x (without w xs) b h) [
          | inl same ↦ (contains_same x xs b same, ap (λ (c : Block). nat_eq c.at w) (sym same) ∙ e)
          | inr there ↦ (let found = rest there in (contains_there x xs b found.0, found.1))
        ]

is_left : (w : ℕ) (xs : List Block) (b : Block) → Contains xs b → nat_eq b.at w ≡ false → Contains (without w xs) b
is_left w [] b h other = absurd (let in_range = h.1 in omega arith)
is_left w (x ∷ xs) b h other = go (nat_eq x.at w) refl (λ there. is_left w xs b there other) (contains_cases x xs b h)
  where
    go : (here : Bool) → nat_eq x.at w ≡ here → (Contains xs b → Contains (without w xs) b)
        → (x ≡ b) ⊎ Contains xs b → Contains (elim here [ true ↦ without w xs | false ↦ x ∷ without w xs ]) b
    go true e rest (inl same) = absurd (let at : nat_eq x.at w ≡ false = ap (λ (c : Block). nat_eq c.at w) same ∙ other in cc)
    go true e rest (inr there) = rest there
    go false e rest (inl same) = contains_same x (without w xs) b same
    go false e rest (inr there) = contains_there x (without w xs) b (rest there)

without_to : (w : ℕ) (xs ys : List Block) → ((b : Block) → Contains xs b → Contains ys b) → (b : Block) → Contains (without w xs) b → Contains (without w ys) b
without_to w xs ys to b h = let found = left_is w xs b h in is_left w ys b (to b found.0) found.1

pub same_without : {xs ys : List Block} (w : ℕ) → HasSameBlocks xs ys → HasSameBlocks (without w xs) (without w ys)
same_without {xs} {ys} w s = record { to = without_to w xs ys s.to; from = without_to w ys xs s.from }

-- what holds of all blocks holds of those that are left
pub all_without : (P : Block → Type 0) (w : ℕ) (xs : List Block) → All P xs → All P (without w xs)
all_without P w xs all =
    All-weaker (Contains (without w xs)) P (λ b h. All-contains P xs b all (left_is w xs b h).0) (without w xs) (All-contains_itself (without w xs))
