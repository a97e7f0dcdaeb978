use Rattle.path_law.proofs.Grown.{tree_fed as shown}
use Rattle.path_law.proofs.threads_law.fed_tree_goes_on.Goals as goal

pub returns : goal.returns
returns c = shown
