use Rattle.path_law.proofs.TreeLaws.{same_end as shown}
use Rattle.path_law.proofs.threads_law.same_end.Goals as goal

pub returns : goal.returns
returns c = shown
