use Rattle.std.proofs.Common.{take}
use Rattle.flow_rules.specs.tools.Spots.{IsBehindAll}
use Rattle.flow_rules.proofs.leaves.spot_among.Given as goal

abbrev pub invariant-loop-shape : goal.invariant-loop-shape
invariant-loop-shape l = IsBehindAll l.c (take l.shape-index l.shapes) l.node l.left
