use Rattle.dfi_checker.proofs.Unbroken.{accepted_breaks_none}
use Rattle.dfi_checker.proofs.law.accepted_breaks_none.Goals as goal

pub returns : goal.returns
returns c = accepted_breaks_none
