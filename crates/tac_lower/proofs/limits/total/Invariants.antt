use Rattle.std.proofs.Common.{◌≡◌, map, sum, take, slice_index}
use Rattle.tac_lower.specs.tools.Counting.{capped}
use Rattle.tac_lower.proofs.limits.total.Given as goal

abbrev pub invariant-loop-shape : goal.invariant-loop-shape
invariant-loop-shape l = l.total ≡ capped (sum (map (slice_index l.nodes) (take l.shape-index l.shapes)))
