use Rattle.std.proofs.Common.{◌≡◌, map, sum, take}
use Rattle.tac_ir.specs.Counts.{shape_nodes}
use Rattle.flow_rules.proofs.nodes.nodes_of_all.Given as goal

abbrev pub invariant-loop-shape : goal.invariant-loop-shape
invariant-loop-shape l = l.nodes ≡ sum (map (shape_nodes l.c) (take l.shape-index l.shapes))
