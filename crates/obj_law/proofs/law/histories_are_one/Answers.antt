use Rattle.obj_law.proofs.One.{histories_one}
use Rattle.obj_law.proofs.Runs.{alone_one}
use Rattle.obj_law.proofs.law.histories_are_one.Goals as goal

pub returns-clause-names : goal.returns-clause-names
returns-clause-names c = λ code input good. histories_one code input good

pub returns-clause-alone : goal.returns-clause-alone
returns-clause-alone c = λ code input good nowhere. alone_one code input good nowhere
