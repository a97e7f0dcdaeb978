-- How answers are told to threads over words.
use Rattle.std.specs.Prelude.{ℕ, Bool, true, false, Option, Some, None}
use Rattle.tac_ir.specs.declared.run.Op.{Op}
use Rattle.tac_ir.specs.declared.run.Answer.{Answer}
use Rattle.tac_thread.specs.declared.flat.FlatStack.{FlatStack}
use Rattle.tac_thread.specs.declared.want.ReplyOf.{ReplyOf}

-- the reply that tells an answer; what stops the run has none
abbrev pub reply_to : Answer → Option (ReplyOf ℕ FlatStack)
reply_to Answer.Unit = Some ReplyOf.Unit
reply_to (Answer.Value v) = Some (ReplyOf.Value v)
reply_to (Answer.Stop stop) = None

-- which answers fit an event that goes on and takes no stack
abbrev pub is_told : Op → Answer → Bool
is_told (Op.Read r w) (Answer.Value v) = true
is_told (Op.Write d w x) Answer.Unit = true
is_told (Op.Same a b ne) (Answer.Value v) = true
is_told (Op.New site count) (Answer.Value v) = true
is_told (Op.Free w) Answer.Unit = true
is_told Op.In (Answer.Value v) = true
is_told Op.Left (Answer.Value v) = true
is_told (Op.Out v) Answer.Unit = true
is_told Op.Ret Answer.Unit = true
is_told Op.Turn Answer.Unit = true
is_told op answer = false

abbrev pub takes_no_stack : Op → Bool
takes_no_stack (Op.Call f) = false
takes_no_stack (Op.Fork branches) = false
takes_no_stack op = true
