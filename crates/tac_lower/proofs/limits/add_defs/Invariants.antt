use Rattle.std.proofs.Common.{◌≡◌, ◌++◌, map, take}
use Rattle.tac_lower.specs.tools.Counting.{capped_share}
use Rattle.tac_lower.specs.Limits.{defs_in}
use Rattle.tac_lower.proofs.limits.add_defs.Given as goal

abbrev pub invariant-loop-fun : goal.invariant-loop-fun
invariant-loop-fun l = l.shares.items ≡ l.initial.shares.items ++ map (λ f. capped_share (defs_in f)) (take l.fun-index l.funs)
