use Rattle.c_types.specs.tools.ProgramWalk.{global_item_walk}
use Rattle.c_types.proofs.EachLaws.{WentOn}
use Rattle.c_types.proofs.globals.global_items.Given as goal

abbrev pub invariant-loop-item : goal.invariant-loop-item
invariant-loop-item l = WentOn (global_item_walk l.outline l.base) l.items l.initial.known l.known l.item-index
