use Rattle.dfi_base.proofs.Names.{below_siblings}
use Rattle.dfi_base.proofs.law.branches_are_apart.Goals as goal

pub returns : goal.returns
returns c = below_siblings
