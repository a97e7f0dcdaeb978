use Rattle.path_law.proofs.Grown.{tree_begins as shown}
use Rattle.path_law.proofs.threads_law.tree_begins.Goals as goal

pub returns : goal.returns
returns c = shown
