use Rattle.dfi_base.specs.Limits.{list_limit}
use Rattle.dfi_top.specs.Reply.{RepliesToInput}
use Rattle.dfi_top.proofs.Replies.{behind_bytes, behind_fault}
use Rattle.dfi_top.proofs.stages.reply_to_module.Goals as goal

pub returns-in-Ok : goal.returns-in-Ok
returns-in-Ok g c =
    behind_bytes g.L.Library.tells c.reply_to_input.new.lib c.args.replay.now.input list_limit (RepliesToInput c.args.replay.now c.args.m.now) c.in-Ok.bytes.items c.deref.result.now
    c.deref.ensures.value c.in-Ok.ensures c.reply_to_input.result c.reply_to_input.ensures

pub returns-in-Err : goal.returns-in-Err
returns-in-Err g c =
    behind_fault g.L.Library.tells c.args.replay.now.input list_limit (RepliesToInput c.args.replay.now c.args.m.now) c.in-Err.fault c.bytes.result.now c.bytes.ensures c.in-Err.ensures
    c.refuse_load.result c.refuse_load.ensures
