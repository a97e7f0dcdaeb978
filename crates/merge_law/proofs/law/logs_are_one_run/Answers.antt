use Rattle.merge_law.proofs.runs.Merging.{merging}
use Rattle.merge_law.proofs.law.logs_are_one_run.Goals as goal

pub returns : goal.returns
returns c = merging
