-- The next event of a thread over words.
use Rattle.std.specs.Prelude.{ℕ, Option, Some, None}
use Rattle.tac_ir.specs.declared.code.Code.{Code}
use Rattle.tac_ir.specs.declared.run.Op.{Op}
use Rattle.tac_ir.specs.declared.run.Answer.{Answer}
use Rattle.tac_ir.specs.declared.run.Entry.{Entry}
use Rattle.tac_thread.specs.declared.want.Want.{Want}
use Rattle.tac_thread.specs.Doing.{want_of}
use Rattle.tac_thread.specs.Flat.{flat_meaning}
use Rattle.path_law.specs.Asked.{op_of}
use Rattle.path_law.specs.Standing.{FlatLife, point_of}
use Rattle.flat_core.specs.declared.ask.Asked.{Asked}

-- the op of what a thread wants, where it wants something
abbrev pub op_in : Option (Want ℕ) → Option Op
op_in None = None
op_in (Some want) = op_of want

-- a life asks for this op
abbrev pub asks : FlatLife → Option Op → Option Asked
asks l None = None
asks l (Some op) = Some (record { point = point_of l.top; op = op; stack = l.top.stack })

-- the next event of a thread that runs
abbrev pub asked_of : Code → Option FlatLife → Option Asked
asked_of c None = None
asked_of c (Some l) = asks l (op_in (want_of flat_meaning c l))

-- the entry of an event of thread n that was answered so
abbrev pub entry_of : ℕ → Asked → Answer → Entry
entry_of n a answer = record { name = record { 0 = n }; point = a.point; op = a.op; answer = answer }
