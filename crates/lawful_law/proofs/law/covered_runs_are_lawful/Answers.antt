use Rattle.lawful_law.proofs.Along.{lawful_run}
use Rattle.lawful_law.proofs.law.covered_runs_are_lawful.Goals as goal

pub returns : goal.returns
returns c = lawful_run
