use Rattle.obj_mem.proofs.InObjects.{whole_inside, part_inside, items_inside, moved_inside}
use Rattle.obj_mem.proofs.law.pointers_stay_inside.Goals as goal

pub returns-clause-wholes : goal.returns-clause-wholes
returns-clause-wholes c = whole_inside

pub returns-clause-parts : goal.returns-clause-parts
returns-clause-parts c = part_inside

pub returns-clause-items : goal.returns-clause-items
returns-clause-items c = items_inside

pub returns-clause-moved : goal.returns-clause-moved
returns-clause-moved c = moved_inside
