use Rattle.path_law.proofs.Stopped.{stopped_run}
use Rattle.path_law.proofs.threads_law.stopped_run_has_not_ended.Goals as goal

pub returns : goal.returns
returns c = stopped_run
