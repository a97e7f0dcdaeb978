use Rattle.path_law.proofs.TreeLaws.{same_runnable as shown}
use Rattle.path_law.proofs.threads_law.same_threads_run.Goals as goal

pub returns : goal.returns
returns c = shown
