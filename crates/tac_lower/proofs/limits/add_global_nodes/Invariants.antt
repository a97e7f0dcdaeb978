use Rattle.std.proofs.Common.{◌≡◌, ◌++◌, map, take, slice_index}
use Rattle.tac_lower.proofs.limits.add_global_nodes.Given as goal

abbrev pub invariant-loop-global : goal.invariant-loop-global
invariant-loop-global l = l.shares.items ≡ l.initial.shares.items ++ map (λ g. record { count = slice_index l.nodes g.shape; line = g.line }) (take l.global-index l.globals)
