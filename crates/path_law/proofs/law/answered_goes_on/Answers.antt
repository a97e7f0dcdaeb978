use Rattle.path_law.proofs.Laws.{answers}
use Rattle.path_law.proofs.law.answered_goes_on.Goals as goal

pub returns : goal.returns
returns c = answers
