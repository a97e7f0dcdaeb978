use Rattle.std.proofs.Common.{◌≡◌, ◌++◌, map, take, slice_index}
use Rattle.tac_lower.proofs.limits.add_site_nodes.Given as goal

abbrev pub invariant-loop-site : goal.invariant-loop-site
invariant-loop-site l = l.shares.items ≡ l.initial.shares.items ++ map (λ s. record { count = slice_index l.nodes s.shape; line = s.line }) (take l.site-index l.sites)
