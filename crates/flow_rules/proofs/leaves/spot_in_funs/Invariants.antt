use Rattle.std.proofs.Common.{take}
use Rattle.tac_ir.specs.Counts.{vars_in_funs}
use Rattle.flow_rules.specs.tools.Spots.{IsBehindAll}
use Rattle.flow_rules.proofs.leaves.spot_in_funs.Given as goal

abbrev pub invariant-loop-fun : goal.invariant-loop-fun
invariant-loop-fun l = IsBehindAll l.c (vars_in_funs (take l.fun-index l.c.funs)) l.node l.left
