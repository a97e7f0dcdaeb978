use Rattle.std.proofs.Common.{Vec, subst}
use Rattle.std.specs.Prelude.{ℤ}
use Rattle.std.specs.declared.alloc.Global.{Global}
use Rattle.number_lists.specs.Lists.{int_of}
use Rattle.dfi_top.specs.Reply.{RepliesToNumbers, said_by}
use Rattle.dfi_top.specs.tools.Stages.{Goes}
use Rattle.dfi_top.proofs.Replies.{input_read, input_refused, refused_at}
use Rattle.dfi_top.proofs.stages.reply_to_input.Goals as goal

pub returns-in-Err-Refused : goal.returns-in-Err-Refused
returns-in-Err-Refused g c =
    input_refused g.L.Library.tells c.args.lib.now c.args.replay.now c.args.m.now c.args.bytes.now c.in-Err-Refused.at
    (refused_at {X = Vec ℤ Global} (λ v. v.items) int_of c.args.bytes.now _ c.in-Err-Refused.at c.in-Err-Refused.field-0-is c.in-Err-Refused.ensures.list) c.refuse_input.result c.refuse_input.ensures

pub returns-in-Ok : goal.returns-in-Ok
returns-in-Ok g c =
    input_read g.L.Library.tells c.args.lib.now c.reply_to_numbers.new.lib c.args.replay.now c.args.m.now c.args.bytes.now c.in-Ok.numbers.items c.in-Ok.ensures.list c.reply_to_numbers.result
    (subst (λ ns. Goes said_by g.L.Library.tells (RepliesToNumbers c.args.m.now ns c.args.replay.now.budget c.args.replay.now.names) c.args.lib.now c.reply_to_numbers.new.lib c.reply_to_numbers.result)
    c.deref.ensures.value c.reply_to_numbers.ensures)
