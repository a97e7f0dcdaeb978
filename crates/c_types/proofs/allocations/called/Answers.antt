use Rattle.std.proofs.Common.{ap}
use Rattle.c_types.proofs.WalkLevels.{walk_call}
use Rattle.c_types.proofs.WalkLaws.{no_call}
use Rattle.c_types.proofs.allocations.called.Goals as goal

pub returns-in-Call : goal.returns-in-Call
returns-in-Call c = λ o k. ap (λ f. f.calls) (walk_call o k c.args.e.now c.in-Call.function c.in-Call.arguments c.in-Call.is)

pub returns-in_default : goal.returns-in_default
returns-in_default c = λ o k. no_call o k c.args.e.now c.in_default.not-Call
