use Rattle.c_types.specs.tools.Steps.{if_some}
use Rattle.c_types.specs.tools.DeclWalk.{local_item_walk}
use Rattle.c_types.proofs.EachLaws.{SoFar}
use Rattle.c_types.proofs.decls.local_items.Given as goal

abbrev pub invariant-loop-item : goal.invariant-loop-item
invariant-loop-item l = SoFar if_some (local_item_walk l.outline l.base) l.items l.initial.known l.values l.known l.item-index
