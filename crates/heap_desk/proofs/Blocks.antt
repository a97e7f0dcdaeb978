-- The blocks of a heap after a change at one word.
use Rattle.std.proofs.Common.{◌≡◌, ℕ, zero, suc, ◌+◌, ◌-◌, ◌<◌, ◌≤◌, Bool, true, false, ◌||◌, nat_eq, List, [], ◌∷◌, ◌++◌, length, slice_set, refl, sym, ap, subst, ◌∙◌, arith, ◌⊎◌, inl, inr, get_or-set_same, get_or-set_other, if◌then◌else◌}
use Rattle.std.specs.Prelude.{slice_index}
use Rattle.std.specs.List.{All}
use Rattle.std.proofs.lemmas.Bool.{cases_eq, cases_lt}
use Rattle.std.proofs.lemmas.List.Elements.{All-nil, All-cons, All-head}
use Rattle.std.proofs.lemmas.Bool.Decides.{nat_tests}
use Rattle.tac_ir.specs.Layout.{heap_from}
use Rattle.tac_ir.specs.Desk.{Block, begins_block, without}
use Rattle.heap_desk.specs.Desk.{with_block}
use Rattle.heap_desk.specs.tools.Spans.{block_at, begun_at, gather}
use Rattle.heap_desk.proofs.Order.{with_before, with_behind}
use Rattle.heap_desk.proofs.Levels.{gather_same}

-- One block more.

-- a block that begins before the others stands in front
with_front : (new : Block) (blocks : List Block) → All (λ (b : Block). new.at < b.at) blocks → with_block new blocks ≡ new ∷ blocks
with_front new [] all = refl
with_front new (b ∷ blocks) all = with_before new b blocks (All-head (λ (c : Block). new.at < c.at) b blocks all)

with_later : (new : Block) (at end : ℕ) (blocks : List Block) → at ≤ new.at → with_block new (block_at at end ++ blocks) ≡ block_at at end ++ with_block new blocks
with_later new at end blocks le = go (nat_eq end 0)
  where
    go : (none : Bool) → with_block new ((if none then [] else record { at = at; words = end - at } ∷ []) ++ blocks)
        ≡ (if none then [] else record { at = at; words = end - at } ∷ []) ++ with_block new blocks
    go true = refl
    go false = with_behind new (record { at = at; words = end - at }) blocks le

starts_behind : (ends : List ℕ) (low k n : ℕ) → low < heap_from + k → All (λ (b : Block). low < b.at) (gather (begun_at ends) k n)
starts_behind ends low k zero less = All-nil (λ (b : Block). low < b.at)
starts_behind ends low k (suc n) less = go (nat_eq (slice_index ends k) 0) (starts_behind ends low (suc k) n (omega (arith, less)))
  where
    go : (none : Bool) → All (λ (b : Block). low < b.at) (gather (begun_at ends) (suc k) n)
        → All (λ (b : Block). low < b.at) ((if none then [] else record { at = heap_from + k; words = slice_index ends k - (heap_from + k) } ∷ []) ++ gather (begun_at ends) (suc k) n)
    go true rest = rest
    go false rest = All-cons (λ (b : Block). low < b.at) (record { at = heap_from + k; words = slice_index ends k - (heap_from + k) }) (gather (begun_at ends) (suc k) n) less rest

none_at : (at end : ℕ) → end ≡ 0 → block_at at end ≡ []
none_at at end none = ap (block_at at) none

one_at : (at end : ℕ) → 0 < end → block_at at end ≡ record { at = at; words = end - at } ∷ []
one_at at end some =
    let e : nat_eq end 0 ≡ false = grind (arith, nat_tests, some) in
    ap (λ t. if t then [] else record { at = at; words = end - at } ∷ []) e

-- a list of ends with another end at one word
pub record Differs (ends new : List ℕ) (word end : ℕ) : Type 0 where
  pub here : slice_index new word ≡ end
  pub there : (i : ℕ) → (i ≡ word → ⊥) → slice_index new i ≡ slice_index ends i

pub differs : (ends : List ℕ) (word end : ℕ) → word < length ends → Differs ends (slice_set ends word end) word end
differs ends word end within =
    record { here = get_or-set_same ends word end 0 within; there = λ i other. get_or-set_other ends word i end 0 other }

begun_same : (ends new : List ℕ) (word end i : ℕ) → Differs ends new word end → (i ≡ word → ⊥) → begun_at new i ≡ begun_at ends i
begun_same ends new word end i d other = ap (block_at (heap_from + i)) (d.there i other)

pub gather_with : (ends new : List ℕ) (word end k n : ℕ) → Differs ends new word end → slice_index ends word ≡ 0 → 0 < end → k ≤ word → word < k + n
    → gather (begun_at new) k n ≡ with_block (record { at = heap_from + word; words = end - (heap_from + word) }) (gather (begun_at ends) k n)
gather_with ends new word end k zero d none some low high = absurd (omega (arith, low, high))
gather_with ends new word end k (suc n) d none some low high =
    go (cases_eq k word) (λ behind. gather_with ends new word end (suc k) n d none some behind (omega (arith, high)))
  where
    block : Block
    block = record { at = heap_from + word; words = end - (heap_from + word) }

    go : (k ≡ word) ⊎ (k ≡ word → ⊥) → (suc k ≤ word → gather (begun_at new) (suc k) n ≡ with_block block (gather (begun_at ends) (suc k) n))
        → gather (begun_at new) k (suc n) ≡ with_block block (gather (begun_at ends) k (suc n))
    go (inl here) later =
        let new_one : begun_at new k ≡ block ∷ [] =
        ap (begun_at new) here ∙ ap (block_at (heap_from + word)) d.here ∙ one_at (heap_from + word) end some in
        let old_one : begun_at ends k ≡ [] = ap (begun_at ends) here ∙ none_at (heap_from + word) (slice_index ends word) none in
        let rest : gather (begun_at new) (suc k) n ≡ gather (begun_at ends) (suc k) n =
        gather_same (begun_at new) (begun_at ends) (suc k) n (λ i above below. begun_same ends new word end i d (λ same. omega (arith, same, above, here))) in
        ap (λ bs. bs ++ gather (begun_at new) (suc k) n) new_one
        ∙ ap (λ bs. block ∷ bs) rest
        ∙ sym (with_front block (gather (begun_at ends) (suc k) n) (starts_behind ends (heap_from + word) (suc k) n (omega (arith, here))))
        ∙ sym (ap (λ bs. with_block block (bs ++ gather (begun_at ends) (suc k) n)) old_one)
    go (inr other) later =
        ap (λ bs. bs ++ gather (begun_at new) (suc k) n) (begun_same ends new word end k d other)
        ∙ ap (λ bs. begun_at ends k ++ bs) (later (omega (arith, low, other)))
        ∙ sym (with_later block (heap_from + k) (slice_index ends k) (gather (begun_at ends) (suc k) n) (omega (arith, low)))

-- One block less.

without_append : (w : ℕ) (xs ys : List Block) → without w (xs ++ ys) ≡ without w xs ++ without w ys
without_append w [] ys = refl
without_append w (b ∷ xs) ys = go (nat_eq b.at w) (without_append w xs ys)
  where
    go : (here : Bool) → without w (xs ++ ys) ≡ without w xs ++ without w ys
        → (elim here [ true ↦ without w (xs ++ ys) | false ↦ b ∷ without w (xs ++ ys) ])
        ≡ (elim here [ true ↦ without w xs | false ↦ b ∷ without w xs ]) ++ without w ys
    go true rest = rest
    go false rest = ap (λ bs. b ∷ bs) rest

without_other : (w at end : ℕ) → (at ≡ w → ⊥) → without w (block_at at end) ≡ block_at at end
without_other w at end other = go (nat_eq end 0)
  where
    differ : nat_eq at w ≡ false
    differ = grind (arith, nat_tests, other)

    go : (none : Bool) → without w (if none then [] else record { at = at; words = end - at } ∷ []) ≡ (if none then [] else record { at = at; words = end - at } ∷ [])
    go true = refl
    go false = ap (λ t. elim t as (λ x. List Block) [ true ↦ [] | false ↦ record { at = at; words = end - at } ∷ [] ]) differ

without_same : (w at end : ℕ) → at ≡ w → without w (block_at at end) ≡ []
without_same w at end same = go (nat_eq end 0)
  where
    equal : nat_eq at w ≡ true
    equal = grind (arith, nat_tests, same)

    go : (none : Bool) → without w (if none then [] else record { at = at; words = end - at } ∷ []) ≡ []
    go true = refl
    go false = ap (λ t. elim t as (λ x. List Block) [ true ↦ [] | false ↦ record { at = at; words = end - at } ∷ [] ]) equal

pub gather_without : (ends new : List ℕ) (word k n : ℕ) → Differs ends new word 0
    → gather (begun_at new) k n ≡ without (heap_from + word) (gather (begun_at ends) k n)
gather_without ends new word k zero d = refl
gather_without ends new word k (suc n) d =
    ap (λ bs. bs ++ gather (begun_at new) (suc k) n) (go (cases_eq k word))
    ∙ ap (λ bs. without (heap_from + word) (begun_at ends k) ++ bs) (gather_without ends new word (suc k) n d)
    ∙ sym (without_append (heap_from + word) (begun_at ends k) (gather (begun_at ends) (suc k) n))
  where
    go : (k ≡ word) ⊎ (k ≡ word → ⊥) → begun_at new k ≡ without (heap_from + word) (begun_at ends k)
    go (inl here) =
        ap (begun_at new) here ∙ none_at (heap_from + word) (slice_index new word) d.here
        ∙ sym (without_same (heap_from + word) (heap_from + k) (slice_index ends k) (ap (λ i. heap_from + i) here))
    go (inr other) =
        begun_same ends new word 0 k d other
        ∙ sym (without_other (heap_from + word) (heap_from + k) (slice_index ends k) (λ same. other (omega (arith, same))))

-- Where a block begins.

begins_append : (w : ℕ) (xs ys : List Block) → begins_block w (xs ++ ys) ≡ (begins_block w xs || begins_block w ys)
begins_append w [] ys = refl
begins_append w (b ∷ xs) ys = ap (λ t. nat_eq b.at w || t) (begins_append w xs ys) ∙ assoc (nat_eq b.at w) (begins_block w xs) (begins_block w ys)
  where
    assoc : (p q r : Bool) → (p || (q || r)) ≡ ((p || q) || r)
    assoc true q r = refl
    assoc false q r = refl

begins_one : (w at end : ℕ) → at ≡ w → 0 < end → begins_block w (block_at at end) ≡ true
begins_one w at end same some =
    let equal : nat_eq at w ≡ true = grind (arith, nat_tests, same) in
    ap (begins_block w) (one_at at end some) ∙ ap (λ t. t || false) equal

begins_other : (w at end : ℕ) → (at ≡ w → end ≡ 0) → begins_block w (block_at at end) ≡ false
begins_other w at end none = go (cases_eq at w)
  where
    by : (t : Bool) → nat_eq at w ≡ false → begins_block w (if t then [] else record { at = at; words = end - at } ∷ []) ≡ false
    by true differ = refl
    by false differ = ap (λ t. t || false) differ

    go : (at ≡ w) ⊎ (at ≡ w → ⊥) → begins_block w (block_at at end) ≡ false
    go (inl same) = ap (begins_block w) (none_at at end (none same))
    go (inr other) = by (nat_eq end 0) (grind (arith, nat_tests, other))

pub begins_yes : (ends : List ℕ) (word k n : ℕ) → 0 < slice_index ends word → k ≤ word → word < k + n → begins_block (heap_from + word) (gather (begun_at ends) k n) ≡ true
begins_yes ends word k zero some low high = absurd (omega (arith, low, high))
begins_yes ends word k (suc n) some low high = begins_append (heap_from + word) (begun_at ends k) (gather (begun_at ends) (suc k) n) ∙ go (cases_eq k word) (λ behind. begins_yes ends word (suc k) n some behind (omega (arith, high)))
  where
    either : (p : Bool) → (p || true) ≡ true
    either true = refl
    either false = refl

    go : (k ≡ word) ⊎ (k ≡ word → ⊥) → (suc k ≤ word → begins_block (heap_from + word) (gather (begun_at ends) (suc k) n) ≡ true)
        → (begins_block (heap_from + word) (begun_at ends k) || begins_block (heap_from + word) (gather (begun_at ends) (suc k) n)) ≡ true
    go (inl here) later =
        let some_here : 0 < slice_index ends k = subst (λ i. 0 < slice_index ends i) (sym here) some in
        ap (λ t. t || begins_block (heap_from + word) (gather (begun_at ends) (suc k) n))
        (begins_one (heap_from + word) (heap_from + k) (slice_index ends k) (ap (λ i. heap_from + i) here) some_here)
    go (inr other) later =
        ap (λ t. begins_block (heap_from + word) (begun_at ends k) || t) (later (omega (arith, low, other)))
        ∙ either (begins_block (heap_from + word) (begun_at ends k))

pub begins_not : (ends : List ℕ) (w k n : ℕ) → ((i : ℕ) → heap_from + i ≡ w → slice_index ends i ≡ 0) → begins_block w (gather (begun_at ends) k n) ≡ false
begins_not ends w k zero none = refl
begins_not ends w k (suc n) none =
    begins_append w (begun_at ends k) (gather (begun_at ends) (suc k) n)
    ∙ ap (λ t. t || begins_block w (gather (begun_at ends) (suc k) n)) (begins_other w (heap_from + k) (slice_index ends k) (none k))
    ∙ begins_not ends w (suc k) n none

-- no block begins where the list of ends has a 0
pub free_at : (ends : List ℕ) (word n : ℕ) → word < n → begins_block (heap_from + word) (gather (begun_at ends) 0 n) ≡ false → slice_index ends word ≡ 0
free_at ends word n within none = elim (cases_lt 0 (slice_index ends word)) [
  | inl some ↦ absurd (let begun = begins_yes ends word 0 n some (omega arith) (omega (arith, within)) in cc)
  | inr le ↦ omega (arith, le)
]

pub gather_none : (ends : List ℕ) (k n : ℕ) → ((i : ℕ) → slice_index ends i ≡ 0) → gather (begun_at ends) k n ≡ []
gather_none ends k zero none = refl
gather_none ends k (suc n) none =
    ap (λ bs. bs ++ gather (begun_at ends) (suc k) n) (none_at (heap_from + k) (slice_index ends k) (none k)) ∙ gather_none ends (suc k) n none
