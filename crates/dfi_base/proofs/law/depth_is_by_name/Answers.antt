use Rattle.dfi_base.proofs.Depth.{depth_is_by_name}
use Rattle.dfi_base.proofs.law.depth_is_by_name.Goals as goal

pub returns : goal.returns
returns c = depth_is_by_name
