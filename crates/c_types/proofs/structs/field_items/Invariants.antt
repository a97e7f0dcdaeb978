use Rattle.c_types.specs.tools.ProgramWalk.{field_item_walk}
use Rattle.c_types.proofs.EachLaws.{WentOn}
use Rattle.c_types.proofs.structs.field_items.Given as goal

abbrev pub invariant-loop-d : goal.invariant-loop-d
invariant-loop-d l = WentOn (field_item_walk l.outline l.base) l.items l.initial.known l.known l.d-index
