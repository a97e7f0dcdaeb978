use Rattle.path_law.proofs.TreeLaws.{next_event as shown}
use Rattle.path_law.proofs.threads_law.runs_what_is_next.Goals as goal

pub returns : goal.returns
returns c = shown
