use Rattle.std.proofs.Common.{◌≡◌, take, map}
use Rattle.tac_thread.specs.Life.{temp}
use Rattle.tac_thread.proofs.temps.arguments.Given as goal

abbrev pub invariant-loop-arg : goal.invariant-loop-arg
invariant-loop-arg g l = l.values.items ≡ map (temp g.D.Domain.meaning l.caller) (take l.arg-index l.args)
