use Rattle.dfi_top.proofs.Replies.{words_asked}
use Rattle.dfi_top.proofs.call.reply_to_words.Goals as goal

pub returns-in-Ok : goal.returns-in-Ok
returns-in-Ok g c = words_asked g.L.Library.tells _ c.in-Ok.job c.args.lib.now c.reply_to_job.new.lib c.in-Ok.ensures c.reply_to_job.result c.reply_to_job.ensures
