use Rattle.flow_rules.specs.InSet.{InSet}
use Rattle.flow_rules.specs.ReachRows.{reach_rows}
use Rattle.flow_rules.specs.Touches.{touches}
use Rattle.def_classes.specs.tools.Listed.{IsListOf}
use Rattle.def_classes.proofs.found.set_of.Given as goal

abbrev pub invariant-loop-def : goal.invariant-loop-def
invariant-loop-def l = IsListOf (InSet l.c (touches l.c l.p.rows) (reach_rows l.c l.r) l.read.0) l.def l.set
