use Rattle.std.proofs.Common.{take}
use Rattle.tac_ir.specs.Layout.{shapes_of_globals}
use Rattle.flow_rules.specs.tools.Spots.{IsBehindAll}
use Rattle.flow_rules.proofs.leaves.spot_in_globals.Given as goal

abbrev pub invariant-loop-global : goal.invariant-loop-global
invariant-loop-global l = IsBehindAll l.c (take l.global-index (shapes_of_globals l.c)) l.node l.left
