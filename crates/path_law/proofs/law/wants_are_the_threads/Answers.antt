use Rattle.path_law.proofs.Laws.{threads_want}
use Rattle.path_law.proofs.law.wants_are_the_threads.Goals as goal

pub returns : goal.returns
returns c = threads_want
