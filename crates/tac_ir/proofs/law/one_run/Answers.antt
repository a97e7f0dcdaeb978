use Rattle.tac_ir.proofs.OneRun.{run_one}
use Rattle.tac_ir.proofs.law.one_run.Goals as goal

pub returns : goal.returns
returns c = run_one
