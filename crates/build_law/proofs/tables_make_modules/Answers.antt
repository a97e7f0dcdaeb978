use Rattle.build_law.proofs.Building.{built}
use Rattle.build_law.proofs.Running.{can_run}
use Rattle.build_law.proofs.tables_make_modules.Goals as goal

pub returns-clause-built : goal.returns-clause-built
returns-clause-built c = built

pub returns-clause-run : goal.returns-clause-run
returns-clause-run c = can_run
