-- What an event is answered, after the entries before it.
use Rattle.std.specs.Prelude.{◌≡◌, ℕ, zero, suc, ◌-◌, ◌/◌, Bool, true, false, not, ◌&&◌, ◌||◌, nat_eq, nat_lt, nat_le, if◌then◌else◌, Some, None, List, [], ◌∷◌, ℤ, pos, negsuc, length, slice_get}
use Rattle.dfi_base.specs.Limits.{depth_limit}
pub use Rattle.dfi_base.specs.Names.{depth_within, depth_of}
use Rattle.tac_ir.specs.declared.run.Op.{Op}
use Rattle.tac_ir.specs.declared.run.Stop.{Stop}
use Rattle.tac_ir.specs.declared.run.Answer.{Answer}
use Rattle.tac_ir.specs.declared.run.Entry.{Entry}
use Rattle.tac_ir.specs.Module.{Module}
use Rattle.tac_ir.specs.Words.{word_of, truth}
use Rattle.tac_ir.specs.Layout.{memory_words, stack_from, heap_from, frame_words}
use Rattle.tac_ir.specs.Last.{Written, last_write}
use Rattle.tac_ir.specs.Desk.{live_blocks, begins_block, room_for, IsFree, IsFirstFit, inputs_in}

-- whether a list has a member
abbrev pub has : List ℕ → ℕ → Bool
has [] d = false
has (x ∷ set) d = nat_eq x d || has set d

-- the set of read r, and the class of definition d: both are numbered from 1
abbrev pub set_of : Module → ℕ → List ℕ
set_of m zero = []
set_of m (suc r) = elim (slice_get m.sets r) [ None ↦ [] | Some set ↦ set ]

abbrev pub class_of : Module → ℕ → ℕ
class_of m zero = 0
class_of m (suc d) = elim (slice_get m.classes d) [ None ↦ 0 | Some class ↦ class ]

abbrev pub is_checked : Module → ℕ → Bool
is_checked m zero = true
is_checked m (suc r) = elim (slice_get m.removed r) [ None ↦ true | Some removed ↦ not removed ]

-- the last write has a definition, and it is in the set of read r
abbrev pub is_allowed : Module → ℕ → Written → Bool
is_allowed m r last = not (nat_eq last.def 0) && has (set_of m r) last.def

-- a read past the memory stops; a checked one that is not allowed is an alarm; any other has the last value
abbrev pub read_by : Module → ℕ → ℕ → Written → Answer
read_by m r w last =
    if nat_le (memory_words m.size) w then Answer.Stop Stop.Address
    else (if (is_checked m r && not (is_allowed m r last)) then Answer.Stop (Stop.Alarm (class_of m last.def))
    else Answer.Value last.value)

abbrev pub read_answer : Module → List Entry → ℕ → ℕ → Answer
read_answer m h r w = read_by m r w (last_write m.code h w)

abbrev pub write_answer : Module → ℕ → Answer
write_answer m w = if nat_le (memory_words m.size) w then Answer.Stop Stop.Address else Answer.Unit

-- a block of so many items stands at the least free place; where there is none the run stops
abbrev pub IsBlockAnswer : Module → List Entry → ℕ → ℤ → Answer → Type 0
IsBlockAnswer m h site (pos count) (Answer.Value w) =
    IsFirstFit (live_blocks m.code h) heap_from (stack_from m.size) (room_for m.code site count) w
IsBlockAnswer m h site (pos count) (Answer.Stop Stop.Heap) =
    (w : ℕ) → IsFree (live_blocks m.code h) heap_from (stack_from m.size) (room_for m.code site count) w → ⊥
IsBlockAnswer m h site (pos count) answer = ⊥
IsBlockAnswer m h site (negsuc n) answer = answer ≡ Answer.Stop Stop.Heap

abbrev pub free_answer : Module → List Entry → ℕ → Answer
free_answer m h w = if (nat_eq w 0 || begins_block w (live_blocks m.code h)) then Answer.Unit else Answer.Stop Stop.Free

abbrev pub input_at : List ℤ → ℕ → ℕ
input_at input n = elim (slice_get input n) [ None ↦ 0 | Some v ↦ word_of v ]

-- a call's frame has to fit into what is left of the thread's region
abbrev pub call_answer : Module → ℕ → ℕ → Answer
call_answer m room f = if nat_lt room (frame_words m.code f) then Answer.Stop Stop.Stack else Answer.Unit

-- the deepest threads have no branches, and each share of the room has at least a word
abbrev pub fork_answer : ℕ → ℕ → ℕ → Answer
fork_answer n room branches =
    if nat_le depth_limit (depth_of n) then Answer.Stop Stop.Depth
    else (if nat_eq (room / branches) 0 then Answer.Stop Stop.Share else Answer.Unit)

-- the answer of an event of thread n, which has so much room, after the history h
abbrev pub IsAnswer : Module → List ℤ → List Entry → ℕ → ℕ → Op → Answer → Type 0
IsAnswer m input h n room (Op.Read r w) answer = answer ≡ read_answer m h r.0 w
IsAnswer m input h n room (Op.Write d w v) answer = answer ≡ write_answer m w
IsAnswer m input h n room (Op.Same a b ne) answer = answer ≡ Answer.Value (truth (if ne then not (nat_eq a b) else nat_eq a b))
IsAnswer m input h n room (Op.New site count) answer = IsBlockAnswer m h site count answer
IsAnswer m input h n room (Op.Free w) answer = answer ≡ free_answer m h w
IsAnswer m input h n room Op.In answer = answer ≡ Answer.Value (input_at input (inputs_in h))
IsAnswer m input h n room Op.Left answer = answer ≡ Answer.Value (length input - inputs_in h)
IsAnswer m input h n room (Op.Call f) answer = answer ≡ call_answer m room f
IsAnswer m input h n room (Op.Fork branches) answer = answer ≡ fork_answer n room branches
IsAnswer m input h n room Op.Zero answer = answer ≡ Answer.Stop Stop.Divide
IsAnswer m input h n room op answer = answer ≡ Answer.Unit
