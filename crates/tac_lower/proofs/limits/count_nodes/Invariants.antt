use Rattle.std.proofs.Common.{◌≡◌, length, take}
use Rattle.tac_lower.specs.tools.Counting.{AreNodes}
use Rattle.tac_lower.proofs.limits.count_nodes.Given as goal

abbrev pub invariant-loop-shape : goal.invariant-loop-shape
invariant-loop-shape l = record {
  count : length l.nodes.items ≡ l.shape-index;
  each : AreNodes (take l.shape-index l.shapes) l.nodes.items;
}
