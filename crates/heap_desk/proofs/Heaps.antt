-- A heap after a block was taken, and after one was given back.
use Rattle.std.proofs.Common.{◌≡◌, ℕ, ◌+◌, ◌-◌, ◌<◌, ◌≤◌, Bool, true, false, ◌||◌, nat_eq, Option, Some, None, List, [], length, slice_set, refl, sym, ap, subst, ◌∙◌, arith, inl, inr, length-set}
use Rattle.std.specs.Prelude.{slice_index}
use Rattle.std.proofs.lemmas.Bool.Decides.{nat_tests}
use Rattle.std.proofs.lemmas.List.{length-replicate}
use Rattle.tac_ir.specs.Layout.{heap_from}
use Rattle.tac_ir.specs.Desk.{Block, IsFree, begins_block, without}
use Rattle.heap_desk.specs.Desk.{Desk, with_block}
use Rattle.heap_desk.specs.Replies.{can_give, after_give}
use Rattle.heap_desk.specs.InOrder.{IsInOrder}
use Rattle.heap_desk.specs.declared.places.Places.{Places}
use Rattle.heap_desk.specs.tools.Spans.{begun_at, gather, blocks_of, place_in}
use Rattle.heap_desk.specs.tools.Indexed.{IsHeapOf, IsKept, IsIndexOf, IsEmpty, IsPut}
use Rattle.heap_desk.proofs.Order.{heap, order_without, begins_none, without_none}
use Rattle.heap_desk.proofs.FirstFit.{IsPlace, found, none_found}
use Rattle.heap_desk.proofs.Histories.{none_there}
use Rattle.heap_desk.proofs.Blocks.{differs, gather_with, gather_without, gather_none, begins_yes, begins_not, free_at}
use Rattle.heap_desk.proofs.Index.{put_indexed, zeros}

pub opened : {limit : ℕ} {p : Places} → IsKept limit p → IsHeapOf limit p
unfolding IsKept
opened kept = kept

pub closed : {limit : ℕ} {p : Places} → IsHeapOf limit p → IsKept limit p
unfolding IsKept
closed heap = heap

-- what the search among all words found
pub place_found : (limit words at : ℕ) (p : Places) → 0 < words → IsHeapOf limit p
    → Some at ≡ place_in heap_from (heap_from + length p.ends.items) words (blocks_of p.ends.items) → IsPlace heap_from limit words (blocks_of p.ends.items) at
place_found limit words at p some is e =
    let same : place_in heap_from limit words (blocks_of p.ends.items) ≡ Some at = ap (λ l. place_in heap_from l words (blocks_of p.ends.items)) (sym is.whole) ∙ sym e in
    found heap_from limit words (blocks_of p.ends.items) at some is.order same

pub no_place : (limit words : ℕ) (p : Places) → 0 < words → IsHeapOf limit p
    → None ≡ place_in heap_from (heap_from + length p.ends.items) words (blocks_of p.ends.items) → (at : ℕ) → IsFree (blocks_of p.ends.items) heap_from limit words at → ⊥
no_place limit words p some is e =
    let same : place_in heap_from limit words (blocks_of p.ends.items) ≡ None = ap (λ l. place_in heap_from l words (blocks_of p.ends.items)) (sym is.whole) ∙ sym e in
    none_found heap_from limit words (blocks_of p.ends.items) some is.order same

-- the blocks with one more
pub blocks_with : (limit words at word end : ℕ) (old new : Places) → 0 < words → IsHeapOf limit old → IsPlace heap_from limit words (blocks_of old.ends.items) at
    → at ≡ heap_from + word → end ≡ at + words → IsPut old word end new
    → blocks_of new.ends.items ≡ with_block (record { at = at; words = words }) (blocks_of old.ends.items)
unfolding blocks_of
blocks_with limit words at word end old new some is place there last put =
    let free = place.first.free in
    let high = free.high in
    let within : word < length old.ends.items = omega (arith, high, there, some, is.whole) in
    let nothing = none_there heap_from limit words at (gather (begun_at old.ends.items) 0 (length old.ends.items)) some free (heap heap_from limit (gather (begun_at old.ends.items) 0 (length old.ends.items)) is.order).some in
    let none = free_at old.ends.items word (length old.ends.items) within (ap (λ w. begins_block w (gather (begun_at old.ends.items) 0 (length old.ends.items))) (sym there) ∙ nothing) in
    let first : heap_from + word ≡ at = sym there in
    let room : end - (heap_from + word) ≡ words = omega (arith, there, last) in
    ap (λ l. gather (begun_at l) 0 (length l)) put.ends
    ∙ ap (gather (begun_at (slice_set old.ends.items word end)) 0) (length-set old.ends.items word end)
    ∙ gather_with old.ends.items (slice_set old.ends.items word end) word end 0 (length old.ends.items) (differs old.ends.items word end within) none
    (omega (arith, last, some)) (omega arith) (omega (arith, within))
    ∙ ap (λ w. with_block (record { at = w; words = end - (heap_from + word) }) (gather (begun_at old.ends.items) 0 (length old.ends.items))) first
    ∙ ap (λ n. with_block (record { at = at; words = n }) (gather (begun_at old.ends.items) 0 (length old.ends.items))) room

pub heap_with : (limit words at word end : ℕ) (old new : Places) → 0 < words → IsHeapOf limit old → IsPlace heap_from limit words (blocks_of old.ends.items) at
    → at ≡ heap_from + word → end ≡ at + words → IsPut old word end new → IsHeapOf limit new
heap_with limit words at word end old new some is place there last put =
    let high = place.first.free.high in
    let P : List Block → Type 0 = λ bs. IsInOrder heap_from limit bs in
    record {
      indexed = put_indexed old new word end is.indexed (omega (arith, high, there, some, is.whole)) (inr (omega (arith, there, last, some))) put;
      whole = ap (λ l. heap_from + length l) put.ends ∙ ap (λ n. heap_from + n) (length-set old.ends.items word end) ∙ is.whole;
      order = subst P (sym (blocks_with limit words at word end old new some is place there last put)) place.order;
    }

-- the blocks with one less
pub blocks_less : (old new : Places) (w index : ℕ) → IsIndexOf old.ends.items w (Some index) → IsPut old index 0 new
    → blocks_of new.ends.items ≡ without w (blocks_of old.ends.items)
unfolding blocks_of
blocks_less old new w index there put =
    ap (λ l. gather (begun_at l) 0 (length l)) put.ends
    ∙ ap (gather (begun_at (slice_set old.ends.items index 0)) 0) (length-set old.ends.items index 0)
    ∙ gather_without old.ends.items (slice_set old.ends.items index 0) index 0 (length old.ends.items) (differs old.ends.items index 0 there.0)
    ∙ ap (λ v. without v (gather (begun_at old.ends.items) 0 (length old.ends.items))) there.1

pub heap_less : (limit w index : ℕ) (old new : Places) → IsHeapOf limit old → IsIndexOf old.ends.items w (Some index) → IsPut old index 0 new → IsHeapOf limit new
heap_less limit w index old new is there put =
    let P : List Block → Type 0 = λ bs. IsInOrder heap_from limit bs in
    record {
      indexed = put_indexed old new index 0 is.indexed there.0 (inl refl) put;
      whole = ap (λ l. heap_from + length l) put.ends ∙ ap (λ n. heap_from + n) (length-set old.ends.items index 0) ∙ is.whole;
      order = subst P (sym (blocks_less old new w index there put)) (order_without w heap_from limit (blocks_of old.ends.items) is.order);
    }

-- Where a block begins.

abbrev some_in : Option ℕ → Bool
some_in None = false
some_in (Some k) = true

pub begun : (p : Places) (w : ℕ) (o : Option ℕ) → IsIndexOf p.ends.items w o → begins_block w (blocks_of p.ends.items) ≡ some_in o
unfolding blocks_of
begun p w None none = begins_not p.ends.items w 0 (length p.ends.items) none
begun p w (Some k) there =
    ap (λ v. begins_block v (gather (begun_at p.ends.items) 0 (length p.ends.items))) (sym there.1)
    ∙ begins_yes p.ends.items k 0 (length p.ends.items) there.2 (omega arith) (omega (arith, there.0))

-- whether a word may be given back
pub may_give : (d : Desk) (w : ℕ) → begins_block w d.blocks ≡ true → true ≡ can_give d w
may_give d w begins = sym (ap (λ t. nat_eq w 0 || t) begins ∙ either (nat_eq w 0))
  where
    either : (p : Bool) → (p || true) ≡ true
    either true = refl
    either false = refl

pub may_not_give : (d : Desk) (w : ℕ) → (w ≡ 0 → ⊥) → begins_block w d.blocks ≡ false → false ≡ can_give d w
may_not_give d w other begins =
    let differ : nat_eq w 0 ≡ false = grind (arith, nat_tests, other) in
    sym (ap (λ t. t || begins_block w d.blocks) differ ∙ begins)

-- where no block begins at a word, giving it back does nothing
pub given_nothing : (d : Desk) (w : ℕ) → begins_block w d.blocks ≡ false → d ≡ after_give d w
given_nothing d w none = ap (λ bs. record { size = d.size; blocks = bs; rest = d.rest }) (sym (without_none w d.blocks none))

-- no block begins at word 0
pub none_at_0 : (limit w : ℕ) (p : Places) → IsHeapOf limit p → w ≡ 0 → begins_block w (blocks_of p.ends.items) ≡ false
none_at_0 limit w p is zero = begins_none w heap_from limit (blocks_of p.ends.items) (omega (arith, zero)) is.order

-- a heap without blocks
pub heap_empty : (limit : ℕ) (p : Places) → heap_from ≤ limit → IsEmpty (limit - heap_from) p → (blocks_of p.ends.items ≡ []) × IsHeapOf limit p
unfolding blocks_of
heap_empty limit p low is =
    let P : List Block → Type 0 = λ bs. IsInOrder heap_from limit bs in
    let none : (i : ℕ) → slice_index p.ends.items i ≡ 0 = (λ i. ap (λ l. slice_index l i) is.ends ∙ zeros (limit - heap_from) i) in
    let nothing : gather (begun_at p.ends.items) 0 (length p.ends.items) ≡ [] = gather_none p.ends.items 0 (length p.ends.items) none in
    let count : length p.ends.items ≡ limit - heap_from = ap length is.ends ∙ length-replicate (limit - heap_from) 0 in
    (nothing, record { indexed = is.indexed; whole = omega (arith, low, count); order = subst P (sym nothing) low })
