use Rattle.std.proofs.Common.{ap}
use Rattle.c_types.proofs.WalkLevels.{walk_sizeof}
use Rattle.c_types.proofs.WalkLaws.{no_sizeof}
use Rattle.c_types.proofs.allocations.sized.Goals as goal

pub returns-in-Sizeof : goal.returns-in-Sizeof
returns-in-Sizeof c = λ o k. ap (λ f. f.sizeof) (walk_sizeof o k c.args.e.now c.in-Sizeof.t c.in-Sizeof.is)

pub returns-in_default : goal.returns-in_default
returns-in_default c = λ o k. no_sizeof o k c.args.e.now c.in_default.not-Sizeof
