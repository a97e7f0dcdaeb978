use Rattle.dfi_build.proofs.OneBuild.{one_module, no_fault_of_module, one_fault}
use Rattle.dfi_build.proofs.law.one_build.Goals as goal

pub returns-clause-module : goal.returns-clause-module
returns-clause-module c = one_module

pub returns-clause-either : goal.returns-clause-either
returns-clause-either c = no_fault_of_module

pub returns-clause-fault : goal.returns-clause-fault
returns-clause-fault c = one_fault
