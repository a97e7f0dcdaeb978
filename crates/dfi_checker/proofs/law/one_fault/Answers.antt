use Rattle.dfi_checker.proofs.FirstBroken.{one_fault}
use Rattle.dfi_checker.proofs.law.one_fault.Goals as goal

pub returns : goal.returns
returns c = one_fault
