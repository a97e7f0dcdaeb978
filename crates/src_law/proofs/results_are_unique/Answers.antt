use Rattle.src_law.proofs.Whole.{one_result}
use Rattle.src_law.proofs.results_are_unique.Goals as goal

pub returns : goal.returns
returns c = one_result
