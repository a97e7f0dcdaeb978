use Rattle.std.proofs.Common.{sym}
use Rattle.points_to.proofs.Masked.{node_found, node_missed}
use Rattle.points_to.proofs.instr_rules.has_node.Goals as goal

pub returns-in-Some : goal.returns-in-Some
returns-in-Some c =
    sym (node_found c.args.c.now c.args.masks.now c.requires.masks c.args.shape c.requires.shape c.index-masks-shape.result c.index-masks-shape.is c.in-Some.field-0
    c.in-Some.ensures.1)

pub returns-in-None : goal.returns-in-None
returns-in-None c =
    sym (node_missed c.args.c.now c.args.masks.now c.requires.masks c.args.shape c.requires.shape c.index-masks-shape.result c.index-masks-shape.is c.in-None.ensures)
