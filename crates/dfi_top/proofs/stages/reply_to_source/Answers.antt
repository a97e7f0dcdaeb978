use Rattle.dfi_top.proofs.RunLemmas.{all_checked}
use Rattle.dfi_top.proofs.Replies.{source_built, source_refused}
use Rattle.dfi_top.proofs.stages.reply_to_source.Goals as goal

pub reply_to_module-requires-clause-checked : goal.reply_to_module-requires-clause-checked
reply_to_module-requires-clause-checked g c = all_checked c.args.source.now c.in-Ok.module c.in-Ok.ensures.module

pub returns-in-Err : goal.returns-in-Err
returns-in-Err g c = source_refused g.L.Library.tells c.args.lib.now c.args.replay.now c.args.source.now c.in-Err.fault c.refuse_source.result c.refuse_source.ensures

pub returns-in-Ok : goal.returns-in-Ok
returns-in-Ok g c =
    source_built g.L.Library.tells c.args.lib.now c.reply_to_module.new.lib c.args.replay.now c.args.source.now c.in-Ok.module c.in-Ok.ensures.module
    c.reply_to_module.result c.reply_to_module.ensures
