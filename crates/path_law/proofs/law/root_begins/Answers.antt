use Rattle.path_law.proofs.Laws.{thread_one}
use Rattle.path_law.proofs.law.root_begins.Goals as goal

pub returns : goal.returns
returns c = thread_one
