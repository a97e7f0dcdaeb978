use Rattle.obj_law.proofs.Runs.{runs_one}
use Rattle.obj_law.proofs.GoingOn.{starts, goes_on, total}
use Rattle.obj_law.proofs.law.runs_are_one.Goals as goal

pub returns-clause-goes_on : goal.returns-clause-goes_on
returns-clause-goes_on c = λ code input good. record { begins = starts code input good; goes_on = goes_on code input good }

pub returns-clause-total : goal.returns-clause-total
returns-clause-total c = λ code input good names. total code input good names

pub returns-clause-one : goal.returns-clause-one
returns-clause-one c = λ code input names r s good. runs_one code input good names r s
