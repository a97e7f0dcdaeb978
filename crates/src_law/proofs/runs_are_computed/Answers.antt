use Rattle.src_law.proofs.Clean.{runs_computed}
use Rattle.src_law.proofs.runs_are_computed.Goals as goal

pub returns : goal.returns
returns c = runs_computed
