use Rattle.path_law.proofs.TreeLaws.{main_returned}
use Rattle.path_law.proofs.threads_law.main_returns_its_value.Goals as goal

pub returns : goal.returns
returns c = main_returned
