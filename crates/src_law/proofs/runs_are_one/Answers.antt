use Rattle.src_law.proofs.Clean.{runs_one}
use Rattle.src_law.proofs.runs_are_one.Goals as goal

pub returns : goal.returns
returns c = runs_one
