-- A desk at work, by computation.
use Rattle.std.proofs.Common.{◌≡◌, ℕ, false, true, Ok, [], ◌∷◌, refl, lit<, lit≤, pos, negsuc}
use Rattle.tac_ir.specs.declared.module.Size.{Size}
use Rattle.tac_ir.specs.Layout.{heap_from, stack_from}
use Rattle.tac_ir.specs.Desk.{Block, IsFree, IsFirstFit}
use Rattle.heap_desk.specs.Desk.{Desk, room_for_items}
use Rattle.heap_desk.specs.Replies.{after_take, after_give, after_next, can_give, first_of}
use Rattle.heap_desk.proofs.FirstFit.{found, none_found}

abbrev block : ℕ → ℕ → Block
block at words = record { at = at; words = words }

-- three blocks of 10 words, an input of 2 numbers
abbrev three : Desk
three = record { size = Size.Small; blocks = block 8192 10 ∷ block 8202 10 ∷ block 8212 10 ∷ []; rest = pos 7 ∷ negsuc 0 ∷ [] }

-- without the middle one
abbrev two : Desk
two = record { size = Size.Small; blocks = block 8192 10 ∷ block 8212 10 ∷ []; rest = pos 7 ∷ negsuc 0 ∷ [] }

middle_goes : after_give three 8202 ≡ two
middle_goes = refl

middle_comes : after_take two (pos 5) 2 (Ok 8202) ≡ three
middle_comes = refl

inner_word_begins_nothing : can_give three 8203 ≡ false
inner_word_begins_nothing = refl

word_0_may_be_given : can_give three 0 ≡ true
word_0_may_be_given = refl

first_number : first_of three.rest ≡ pos 7
first_number = refl

nothing_is_left : (after_next (after_next (after_next three))).rest ≡ []
nothing_is_left = refl

no_items_take_a_word : room_for_items 0 7 ≡ 1
no_items_take_a_word = refl

-- the middle gap holds 10 words and no more
gap_holds_10 : IsFirstFit two.blocks heap_from (stack_from two.size) 10 8202
gap_holds_10 =
    let place = found 8192 32768 10 two.blocks 8202 (lit< tt) (lit≤ tt, lit< tt, (lit≤ tt, lit< tt, lit≤ tt)) refl in place.first

gap_holds_no_11 : IsFirstFit two.blocks heap_from (stack_from two.size) 11 8222
gap_holds_no_11 =
    let place = found 8192 32768 11 two.blocks 8222 (lit< tt) (lit≤ tt, lit< tt, (lit≤ tt, lit< tt, lit≤ tt)) refl in place.first

-- a heap holds 24,576 words and no more
heap_holds_all : IsFirstFit [] heap_from (stack_from Size.Small) 24576 8192
heap_holds_all = let place = found 8192 32768 24576 [] 8192 (lit< tt) (lit≤ tt) refl in place.first

heap_holds_no_more : (at : ℕ) → IsFree [] heap_from (stack_from Size.Small) 24577 at → ⊥
heap_holds_no_more = none_found 8192 32768 24577 [] (lit< tt) (lit≤ tt) refl

large_heap_holds_all : IsFirstFit [] heap_from (stack_from Size.Large) 516096 8192
large_heap_holds_all = let place = found 8192 524288 516096 [] 8192 (lit< tt) (lit≤ tt) refl in place.first
