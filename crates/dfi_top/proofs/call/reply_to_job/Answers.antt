use Rattle.dfi_top.proofs.Replies.{job_refused}
use Rattle.dfi_top.proofs.call.reply_to_job.Goals as goal

pub returns : goal.returns
returns g c = job_refused g.L.Library.tells c.args.lib.now c.args.job c.in_default.not-Replay c.in_default.not-Gen c.refuse_words.result c.refuse_words.ensures
