use Rattle.path_law.proofs.Laws.{joins}
use Rattle.path_law.proofs.law.joined_goes_on.Goals as goal

pub returns : goal.returns
returns c = joins
