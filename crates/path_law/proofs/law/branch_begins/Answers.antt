use Rattle.path_law.proofs.Laws.{branches}
use Rattle.path_law.proofs.law.branch_begins.Goals as goal

pub returns : goal.returns
returns c = branches
