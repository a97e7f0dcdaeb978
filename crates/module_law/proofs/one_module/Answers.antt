use Rattle.module_law.proofs.SameModules.{built_one, points_one}
use Rattle.module_law.proofs.one_module.Goals as goal

pub returns-clause-points : goal.returns-clause-points
returns-clause-points c = points_one

pub returns-clause-module : goal.returns-clause-module
returns-clause-module c = built_one
