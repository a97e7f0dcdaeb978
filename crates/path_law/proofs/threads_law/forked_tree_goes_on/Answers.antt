use Rattle.path_law.proofs.Forks.{tree_forked as shown}
use Rattle.path_law.proofs.threads_law.forked_tree_goes_on.Goals as goal

pub returns : goal.returns
returns c = shown
