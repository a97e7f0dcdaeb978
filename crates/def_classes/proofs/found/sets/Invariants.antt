use Rattle.tac_ir.specs.Numbers.{defs_in_code}
use Rattle.flow_rules.specs.InSet.{InSet}
use Rattle.flow_rules.specs.ReachRows.{reach_rows}
use Rattle.flow_rules.specs.Touches.{touches}
use Rattle.def_classes.specs.tools.Listed.{AreListsOf}
use Rattle.def_classes.proofs.found.sets.Given as goal

abbrev pub invariant-loop-read : goal.invariant-loop-read
invariant-loop-read l = AreListsOf (InSet l.c (touches l.c l.p.rows) (reach_rows l.c l.r)) l.read (defs_in_code l.c) l.lists
