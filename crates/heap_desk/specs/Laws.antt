-- Laws of the heap and of the desk, over any run.
use Rattle.std.specs.Prelude.{◌≡◌, ℕ, Bool, true, false, Ok, Err, List, [], ◌∷◌, ℤ, pos, ◌<◌, ◌≤◌, ◌++◌, length, All, Contains, if◌then◌else◌}
use Rattle.tac_ir.specs.declared.run.Op.{Op}
use Rattle.tac_ir.specs.declared.run.Stop.{Stop}
use Rattle.tac_ir.specs.declared.run.Answer.{Answer}
use Rattle.tac_ir.specs.declared.run.Entry.{Entry}
use Rattle.tac_ir.specs.Module.{Module}
use Rattle.tac_ir.specs.Words.{word_of}
use Rattle.tac_ir.specs.Layout.{heap_from, stack_from}
use Rattle.tac_ir.specs.Desk.{Block, IsFree, item_words, room_for, live_blocks}
use Rattle.tac_ir.specs.Answers.{IsAnswer}
use Rattle.tac_ir.specs.Served.{AreServed}
use Rattle.tac_ir.specs.CoreRun.{IsHistory}
use Rattle.heap_desk.specs.declared.fault.TakeFault.{TakeFault}
use Rattle.heap_desk.specs.Desk.{Desk}
use Rattle.heap_desk.specs.Heap.{AreInHeap, IsFreeWithout}
use Rattle.heap_desk.specs.Replies.{AnswersTake, after_take, can_give, after_give, first_of, after_next}
use Rattle.heap_desk.specs.Stands.{StandsAfter}

-- The heap.

-- in every run the events that a memory answers have its answers
abbrev pub HistoryIsServed : Type 0
HistoryIsServed = (m : Module) (input : List ℤ) (h : List Entry) → IsHistory m input h → AreServed m input h

-- the live blocks lie in the heap and do not overlap
abbrev pub BlocksStayApart : Type 0
BlocksStayApart = (m : Module) (input : List ℤ) (h : List Entry) → AreServed m input h
    → AreInHeap heap_from (stack_from m.size) (live_blocks m.code h)

-- where a live block is given back, its words are free
abbrev pub GivenBackIsFree : Type 0
GivenBackIsFree = (m : Module) (input : List ℤ) (h : List Entry) (b : Block) → AreServed m input h → Contains (live_blocks m.code h) b
    → IsFreeWithout heap_from (stack_from m.size) (live_blocks m.code h) b

-- whether an event takes or gives back a block
abbrev pub changes_heap : Op → Bool
changes_heap (Op.New site count) = true
changes_heap (Op.Free word) = true
changes_heap op = false

-- where a live block was given back, and no block was taken or given back since, there is room for a block that is no larger,
-- and it stands at the same place where it would not stand lower
abbrev pub GivenBackIsTaken : Type 0
GivenBackIsTaken = (m : Module) (input : List ℤ) (h later : List Entry) (f : Entry) (b : Block) (site count n room : ℕ)
    → AreServed m input (later ++ f ∷ h) → Contains (live_blocks m.code h) b → f.op ≡ Op.Free b.at
    → All (λ (e : Entry). changes_heap e.op ≡ false) later → room_for m.code site count ≤ b.words
    → (IsAnswer m input (later ++ f ∷ h) n room (Op.New site (pos count)) (Answer.Stop Stop.Heap) → ⊥)
    × (((lower : ℕ) → lower < b.at → IsFree (live_blocks m.code (later ++ f ∷ h)) heap_from (stack_from m.size) (room_for m.code site count) lower → ⊥)
    → IsAnswer m input (later ++ f ∷ h) n room (Op.New site (pos count)) (Answer.Value b.at))

-- A block that is given back at once leaves the desk as it was; so it is taken again at the same place.
abbrev pub GiveUndoesTake : Desk → Type 0
GiveUndoesTake d = (count : ℤ) (words at : ℕ) → AnswersTake d count words (Ok at) → after_give (after_take d count words (Ok at)) at ≡ d

-- The desk beside a run: each law gives the answer that the run allows, and the desk after it.

abbrev pub FollowsRun : Module → List ℤ → List Entry → Entry → Desk → Type 0
FollowsRun m input h e after = ((n room : ℕ) → IsAnswer m input h n room e.op e.answer) × StandsAfter m input (e ∷ h) after

abbrev pub StartsRun : Type 0
StartsRun = (m : Module) (input : List ℤ) → StandsAfter m input [] (record { size = m.size; blocks = []; rest = input })

abbrev pub TakeAnswersNew : Type 0
TakeAnswersNew = (m : Module) (input : List ℤ) (h : List Entry) (d : Desk) (e : Entry) (site : ℕ) (count : ℤ) (at : ℕ)
    → StandsAfter m input h d → AnswersTake d count (item_words m.code site) (Ok at)
    → e.op ≡ Op.New site count → e.answer ≡ Answer.Value at
    → FollowsRun m input h e (after_take d count (item_words m.code site) (Ok at))

abbrev pub NoRoomStopsNew : Type 0
NoRoomStopsNew = (m : Module) (input : List ℤ) (h : List Entry) (d : Desk) (e : Entry) (site : ℕ) (count : ℤ)
    → StandsAfter m input h d → AnswersTake d count (item_words m.code site) (Err TakeFault.NoRoom)
    → e.op ≡ Op.New site count → e.answer ≡ Answer.Stop Stop.Heap
    → FollowsRun m input h e d

abbrev pub GiveAnswersFree : Type 0
GiveAnswersFree = (m : Module) (input : List ℤ) (h : List Entry) (d : Desk) (e : Entry) (word : ℕ)
    → StandsAfter m input h d
    → e.op ≡ Op.Free word → e.answer ≡ (if can_give d word then Answer.Unit else Answer.Stop Stop.Free)
    → FollowsRun m input h e (after_give d word)

abbrev pub NextAnswersIn : Type 0
NextAnswersIn = (m : Module) (input : List ℤ) (h : List Entry) (d : Desk) (e : Entry)
    → StandsAfter m input h d
    → e.op ≡ Op.In → e.answer ≡ Answer.Value (word_of (first_of d.rest))
    → FollowsRun m input h e (after_next d)

abbrev pub LeftAnswersLeft : Type 0
LeftAnswersLeft = (m : Module) (input : List ℤ) (h : List Entry) (d : Desk) (e : Entry)
    → StandsAfter m input h d
    → e.op ≡ Op.Left → e.answer ≡ Answer.Value (length d.rest)
    → FollowsRun m input h e d

-- whether an event changes the heap or the input
abbrev pub changes_desk : Op → Bool
changes_desk Op.In = true
changes_desk op = changes_heap op

abbrev pub OthersLeaveDesk : Type 0
OthersLeaveDesk = (m : Module) (input : List ℤ) (h : List Entry) (d : Desk) (e : Entry)
    → StandsAfter m input h d → changes_desk e.op ≡ false → StandsAfter m input (e ∷ h) d
