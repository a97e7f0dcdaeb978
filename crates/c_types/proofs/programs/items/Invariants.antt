use Rattle.c_types.specs.tools.Steps.{if_some}
use Rattle.c_types.specs.tools.ProgramWalk.{item_walk}
use Rattle.c_types.proofs.EachLaws.{SoFar}
use Rattle.c_types.proofs.programs.items.Given as goal

abbrev pub invariant-loop-i : goal.invariant-loop-i
invariant-loop-i l = SoFar if_some (item_walk l.outline) l.is l.initial.known l.functions l.known l.i-index
