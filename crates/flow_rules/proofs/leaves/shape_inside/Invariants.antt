use Rattle.flow_rules.specs.tools.Spots.{IsInside}
use Rattle.flow_rules.proofs.leaves.shape_inside.Given as goal

abbrev pub invariant-loop-left : goal.invariant-loop-left
invariant-loop-left l = IsInside l.c l.shape l.node l.here l.left

abbrev pub decreases-loop-left : goal.decreases-loop-left
decreases-loop-left l = l.left
