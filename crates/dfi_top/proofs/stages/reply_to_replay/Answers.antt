use Rattle.dfi_base.specs.Limits.{file_limit}
use Rattle.dfi_top.specs.Reply.{RepliesToSource}
use Rattle.dfi_top.proofs.Replies.{behind_bytes, behind_fault}
use Rattle.dfi_top.proofs.stages.reply_to_replay.Goals as goal

pub returns-in-Ok : goal.returns-in-Ok
returns-in-Ok g c =
    behind_bytes g.L.Library.tells c.reply_to_source.new.lib c.args.replay.now.file file_limit (RepliesToSource c.args.replay.now) c.in-Ok.source.items c.deref.result.now
    c.deref.ensures.value c.in-Ok.ensures c.reply_to_source.result c.reply_to_source.ensures

pub returns-in-Err : goal.returns-in-Err
returns-in-Err g c =
    behind_fault g.L.Library.tells c.args.replay.now.file file_limit (RepliesToSource c.args.replay.now) c.in-Err.fault c.bytes.result.now c.bytes.ensures c.in-Err.ensures
    c.refuse_load.result c.refuse_load.ensures
