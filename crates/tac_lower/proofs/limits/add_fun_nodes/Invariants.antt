use Rattle.std.proofs.Common.{◌≡◌, ◌++◌, map, sum, take, slice_index}
use Rattle.tac_lower.specs.tools.Counting.{capped}
use Rattle.tac_lower.proofs.limits.add_fun_nodes.Given as goal

abbrev pub invariant-loop-fun : goal.invariant-loop-fun
invariant-loop-fun l = l.shares.items ≡ l.initial.shares.items ++ map (λ f. record { count = capped (sum (map (slice_index l.nodes) f.vars)); line = f.line }) (take l.fun-index l.funs)
