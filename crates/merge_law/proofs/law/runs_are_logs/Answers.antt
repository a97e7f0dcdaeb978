use Rattle.merge_law.proofs.runs.Back.{run_is_log}
use Rattle.merge_law.proofs.law.runs_are_logs.Goals as goal

pub returns : goal.returns
returns c = run_is_log
