use Rattle.std.proofs.Common.{◌≡◌, ◌++◌, map, take}
use Rattle.tac_lower.specs.tools.Counting.{capped_share}
use Rattle.tac_lower.specs.Limits.{starting_in}
use Rattle.tac_lower.proofs.limits.add_starting.Given as goal

abbrev pub invariant-loop-global : goal.invariant-loop-global
invariant-loop-global l = l.shares.items ≡ l.initial.shares.items ++ map (λ g. capped_share (starting_in g)) (take l.global-index l.globals)
