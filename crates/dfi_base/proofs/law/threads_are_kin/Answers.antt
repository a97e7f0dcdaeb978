use Rattle.dfi_base.proofs.Names.{kin}
use Rattle.dfi_base.proofs.law.threads_are_kin.Goals as goal

pub returns : goal.returns
returns c = kin
