use Rattle.tac_ir.proofs.regions.Innermost.{innermost_is, no_region_is}
use Rattle.path_law.proofs.region_law.one_innermost_region.Goals as goal

pub returns-clause-region : goal.returns-clause-region
returns-clause-region c = λ code f fun at r good found inner. innermost_is code f fun.code (good.code f fun found) at r inner

pub returns-clause-none : goal.returns-clause-none
returns-clause-none c = λ code f fun at good found none. no_region_is code f fun.code (good.code f fun found) at none
