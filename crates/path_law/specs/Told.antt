-- An event of a life, and what it is told of its answer.
use Rattle.std.specs.Prelude.{◌≡◌, ℕ, Some}
use Rattle.tac_ir.specs.declared.code.Code.{Code}
use Rattle.tac_ir.specs.declared.run.Entry.{Entry}
use Rattle.tac_thread.specs.declared.flat.FlatStack.{FlatStack}
use Rattle.tac_thread.specs.declared.want.Want.{Want}
use Rattle.tac_thread.specs.declared.want.ReplyOf.{ReplyOf}
use Rattle.tac_thread.specs.Doing.{want_of}
use Rattle.tac_thread.specs.Answered.{IsReplyTo}
use Rattle.tac_thread.specs.Flat.{flat_meaning}
use Rattle.path_law.specs.Asked.{op_of, Tells}
use Rattle.path_law.specs.Standing.{FlatLife, point_of}

-- The entry is that of the life's next event, and the reply tells the life the entry's answer.
pub record IsTold (c : Code) (l : FlatLife) (e : Entry) (reply : ReplyOf ℕ FlatStack) : Type 0 where
  pub want : Want ℕ
  pub wants : want_of flat_meaning c l ≡ Some want
  pub point : e.point ≡ point_of l.top
  pub event : op_of want ≡ Some e.op
  pub kind : IsReplyTo flat_meaning c want reply
  pub tells : Tells c l.top.stack e.op e.answer reply
