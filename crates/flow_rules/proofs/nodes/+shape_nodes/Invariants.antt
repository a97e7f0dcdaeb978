use Rattle.std.proofs.Common.{◌≡◌, ◌+◌, map, sum, take}
use Rattle.tac_ir.specs.Counts.{shape_nodes}
use Rattle.flow_rules.proofs.nodes.+shape_nodes.Given as goal

abbrev pub decreases-shape_nodes : goal.decreases-shape_nodes
decreases-shape_nodes l = l.shape

abbrev pub invariant-loop-part : goal.invariant-loop-part
invariant-loop-part l = l.nodes ≡ 1 + sum (map (shape_nodes l.c) (take l.part-index l.part-items))
