-- A desk beside a run.
use Rattle.std.proofs.Common.{◌≡◌, ℕ, zero, suc, ◌+◌, ◌-◌, Bool, true, false, nat_eq, ◌||◌, Ok, List, [], ◌∷◌, length, drop, refl, sym, ap, subst, ◌∙◌, arith, ℤ, pos, negsuc, if◌then◌else◌}
use Rattle.std.proofs.lemmas.List.{length-drop, drop-drop}
use Rattle.tac_ir.specs.declared.code.Code.{Code}
use Rattle.tac_ir.specs.declared.run.Op.{Op}
use Rattle.tac_ir.specs.declared.run.Stop.{Stop}
use Rattle.tac_ir.specs.declared.run.Answer.{Answer}
use Rattle.tac_ir.specs.declared.run.Entry.{Entry}
use Rattle.tac_ir.specs.declared.module.Size.{Size}
use Rattle.tac_ir.specs.Module.{Module}
use Rattle.tac_ir.specs.Words.{word_of}
use Rattle.tac_ir.specs.Layout.{heap_from, stack_from}
use Rattle.tac_ir.specs.Desk.{Block, IsFree, IsFirstFit, begins_block, without, room_for, item_words, blocks_after, live_blocks, takes_input, inputs_in}
use Rattle.tac_ir.specs.Answers.{IsAnswer, input_at, free_answer}
use Rattle.heap_desk.specs.Desk.{Desk}
use Rattle.heap_desk.specs.SameBlocks.{HasSameBlocks}
use Rattle.heap_desk.specs.Stands.{StandsAfter}
use Rattle.heap_desk.specs.Replies.{after_take, can_give, after_give, first_of, after_next}
use Rattle.heap_desk.specs.Laws.{StartsRun, TakeAnswersNew, NoRoomStopsNew, GiveAnswersFree, NextAnswersIn, LeftAnswersLeft, OthersLeaveDesk, changes_desk, changes_heap}
use Rattle.heap_desk.proofs.Order.{without_none}
use Rattle.heap_desk.proofs.Histories.{live_with, unchanged_blocks}
use Rattle.heap_desk.proofs.Same.{same_refl, same_sym, same_trans, same_cons, same_with, same_without, begins_same, free_same, first_fit_same}

-- an entry whose op and answer are known
answered : (m : Module) (input : List ℤ) (h : List Entry) (e : Entry) (op : Op) (answer : Answer) → e.op ≡ op → e.answer ≡ answer
    → ((n room : ℕ) → IsAnswer m input h n room op answer) → (n room : ℕ) → IsAnswer m input h n room e.op e.answer
answered m input h e op answer o a fit n room =
    let P : Op → Type 0 = λ p. IsAnswer m input h n room p e.answer in
    let Q : Answer → Type 0 = λ x. IsAnswer m input h n room op x in
    subst P (sym o) (subst Q (sym a) (fit n room))

-- the numbers asked for, with one more entry
inputs_with : (h : List Entry) (e : Entry) (op : Op) → e.op ≡ op → inputs_in (e ∷ h) ≡ takes_input op (inputs_in h)
unfolding inputs_in
inputs_with h e op o = ap (λ p. takes_input p (inputs_in h)) o

-- a desk that has the blocks and the numbers after one more entry
stands_with : (m : Module) (input : List ℤ) (h : List Entry) (d after : Desk) (e : Entry) (op : Op) (answer : Answer) → StandsAfter m input h d
    → e.op ≡ op → e.answer ≡ answer → after.size ≡ d.size → HasSameBlocks (blocks_after m.code op answer (live_blocks m.code h)) after.blocks
    → after.rest ≡ drop (takes_input op (inputs_in h)) input → StandsAfter m input (e ∷ h) after
stands_with m input h d after e op answer stands o a size blocks rest =
    record {
      size = size ∙ stands.size;
      blocks = (let P : List Block → Type 0 = λ bs. HasSameBlocks bs after.blocks in subst P (sym (live_with m.code h e op answer o a)) blocks);
      rest = rest ∙ ap (λ n. drop n input) (sym (inputs_with h e op o));
    }

pub starts_run : StartsRun
unfolding live_blocks inputs_in
starts_run m input = record { size = refl; blocks = same_refl []; rest = refl }

-- the places of a desk are those of the memory
fits_live : (m : Module) (input : List ℤ) (h : List Entry) (d : Desk) (words at : ℕ) → StandsAfter m input h d
    → IsFirstFit d.blocks heap_from (stack_from d.size) words at → IsFirstFit (live_blocks m.code h) heap_from (stack_from m.size) words at
fits_live m input h d words at stands fit =
    let P : Size → Type 0 = λ size. IsFirstFit d.blocks heap_from (stack_from size) words at in
    first_fit_same heap_from (stack_from m.size) words at (same_sym stands.blocks) (subst P stands.size fit)

free_live : (m : Module) (input : List ℤ) (h : List Entry) (d : Desk) (words at : ℕ) → StandsAfter m input h d
    → IsFree (live_blocks m.code h) heap_from (stack_from m.size) words at → IsFree d.blocks heap_from (stack_from d.size) words at
free_live m input h d words at stands free =
    let P : Size → Type 0 = λ size. IsFree d.blocks heap_from (stack_from size) words at in
    subst P (sym stands.size) (free_same heap_from (stack_from m.size) words at stands.blocks free)

pub take_answers_new : TakeAnswersNew
take_answers_new m input h d e site (pos count) at stands fit op answer =
    let new : Block = record { at = at; words = room_for m.code site count } in (
      answered m input h e (Op.New site (pos count)) (Answer.Value at) op answer (λ n room. fits_live m input h d (room_for m.code site count) at stands fit),
      stands_with m input h d (after_take d (pos count) (item_words m.code site) (Ok at)) e (Op.New site (pos count)) (Answer.Value at) stands op answer refl
          (same_trans (same_cons new stands.blocks) (same_with new d.blocks)) stands.rest,
    )
take_answers_new m input h d e site (negsuc n) at stands fit op answer = absurd (cc)

pub no_room_stops_new : NoRoomStopsNew
no_room_stops_new m input h d e site (pos count) stands none op answer = (
  answered m input h e (Op.New site (pos count)) (Answer.Stop Stop.Heap) op answer (λ n room at free. none at (free_live m input h d (room_for m.code site count) at stands free)),
  stands_with m input h d d e (Op.New site (pos count)) (Answer.Stop Stop.Heap) stands op answer refl stands.blocks stands.rest,
)
no_room_stops_new m input h d e site (negsuc k) stands none op answer = (
  answered m input h e (Op.New site (negsuc k)) (Answer.Stop Stop.Heap) op answer (λ n room. refl),
  stands_with m input h d d e (Op.New site (negsuc k)) (Answer.Stop Stop.Heap) stands op answer refl stands.blocks stands.rest,
)

-- the blocks after an event that gives back a word
given_blocks : (c : Code) (live blocks : List Block) (w : ℕ) (given : Bool) → (nat_eq w 0 || begins_block w blocks) ≡ given → HasSameBlocks live blocks
    → HasSameBlocks (blocks_after c (Op.Free w) (if given then Answer.Unit else Answer.Stop Stop.Free) live) (without w blocks)
given_blocks c live blocks w true is same = same_without w same
given_blocks c live blocks w false is same =
    let none : begins_block w blocks ≡ false = neither (nat_eq w 0) (begins_block w blocks) is in
    let P : List Block → Type 0 = λ bs. HasSameBlocks live bs in
    subst P (sym (without_none w blocks none)) same
  where
    neither : (p q : Bool) → (p || q) ≡ false → q ≡ false
    neither true q h = absurd (cc)
    neither false q h = h

pub give_answers_free : GiveAnswersFree
give_answers_free m input h d e word stands op answer =
    let same = begins_same word stands.blocks in
    let allowed : (if can_give d word then Answer.Unit else Answer.Stop Stop.Free) ≡ free_answer m h word =
    ap (λ b. if (nat_eq word 0 || b) then Answer.Unit else Answer.Stop Stop.Free) (sym same) in (
      answered m input h e (Op.Free word) (if can_give d word then Answer.Unit else Answer.Stop Stop.Free) op answer (λ n room. allowed),
      stands_with m input h d (after_give d word) e (Op.Free word) (if can_give d word then Answer.Unit else Answer.Stop Stop.Free) stands op answer refl
          (given_blocks m.code (live_blocks m.code h) d.blocks word (can_give d word) refl stands.blocks) stands.rest,
    )

-- the first number that remains is the one at the place that comes next
first_left : (n : ℕ) (input : List ℤ) → word_of (first_of (drop n input)) ≡ input_at input n
first_left zero [] = refl
first_left (suc n) [] = refl
first_left zero (v ∷ input) = refl
first_left (suc n) (v ∷ input) = first_left n input

pub next_answers_in : NextAnswersIn
next_answers_in m input h d e stands op answer =
    let value : word_of (first_of d.rest) ≡ input_at input (inputs_in h) = ap (λ rest. word_of (first_of rest)) stands.rest ∙ first_left (inputs_in h) input in
    let next : inputs_in h + 1 ≡ suc (inputs_in h) = omega arith in (
      answered m input h e Op.In (Answer.Value (word_of (first_of d.rest))) op answer (λ n room. ap Answer.Value value),
      stands_with m input h d (after_next d) e Op.In (Answer.Value (word_of (first_of d.rest))) stands op answer refl stands.blocks
          (ap (drop 1) stands.rest ∙ drop-drop 1 (inputs_in h) input ∙ ap (λ k. drop k input) next),
    )

pub left_answers_left : LeftAnswersLeft
left_answers_left m input h d e stands op answer =
    let value : length d.rest ≡ length input - inputs_in h = ap length stands.rest ∙ length-drop (inputs_in h) input in (
      answered m input h e Op.Left (Answer.Value (length d.rest)) op answer (λ n room. ap Answer.Value value),
      stands_with m input h d d e Op.Left (Answer.Value (length d.rest)) stands op answer refl stands.blocks stands.rest,
    )

changes_less : (op : Op) → changes_desk op ≡ false → changes_heap op ≡ false
changes_less Op.In no_change = refl
changes_less op no_change = no_change

unchanged_inputs : (op : Op) (n : ℕ) → changes_desk op ≡ false → n ≡ takes_input op n
unchanged_inputs Op.In n no_change = absurd (cc)
unchanged_inputs op n no_change = refl

pub others_leave_desk : OthersLeaveDesk
others_leave_desk m input h d e stands no_change =
    let P : List Block → Type 0 = λ bs. HasSameBlocks bs d.blocks in
    stands_with m input h d d e e.op e.answer stands refl refl refl
    (subst P (sym (unchanged_blocks m.code e.op e.answer (live_blocks m.code h) (changes_less e.op no_change))) stands.blocks)
    (stands.rest ∙ ap (λ n. drop n input) (unchanged_inputs e.op (inputs_in h) no_change))
