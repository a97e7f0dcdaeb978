-- What a life wants, and what the run says of its thread.
use Rattle.std.specs.Prelude.{ℕ, ◌-◌, Option, Some, None, List}
use Rattle.tac_ir.specs.declared.code.Code.{Code}
use Rattle.tac_ir.specs.declared.run.Op.{Op}
use Rattle.tac_ir.specs.declared.run.Entry.{Entry}
use Rattle.tac_ir.specs.Path.{Start}
use Rattle.tac_ir.specs.Threads
use Rattle.tac_ir.specs.Threads.{IsWanted}
pub use Rattle.tac_ir.specs.Threads.{ended_with, EndsWith}
use Rattle.tac_thread.specs.declared.flat.FlatStack.{FlatStack}
use Rattle.tac_thread.specs.declared.want.Want.{Want}
use Rattle.path_law.specs.Asked.{op_of}
use Rattle.path_law.specs.Standing.{FlatLife, point_of}

-- the words that are left in the region of a stack
abbrev pub room_in : FlatStack → ℕ
room_in s = s.«end» - s.top

-- the next event of a life: it stands at the instruction of its newest activation, and has the room above that frame
abbrev pub next_of : FlatLife → Op → Threads.Want
next_of l op = record { point = point_of l.top; op = op; room = room_in l.top.stack }

abbrev pub WantsOp : Code → Start → List Entry → FlatLife → Option Op → Type 0
WantsOp c s own l None = ⊥
WantsOp c s own l (Some op) = IsWanted c s own (next_of l op)

-- After these entries the thread wants what its life wants: a life that has ended has come to the path's end, one that waits does so for its
-- branches, each other want is the event of the path's next step, and no instruction is without a value.
abbrev pub IsThreadsWant : Code → Start → List Entry → FlatLife → Want ℕ → Type 0
IsThreadsWant c s own l (Want.Ended v) = EndsWith c s own v
IsThreadsWant c s own l Want.Waits = Unit {0}
IsThreadsWant c s own l w = WantsOp c s own l (op_of w)
