use Rattle.std.proofs.Common.{sym, ◌∙◌, arith}
use Rattle.points_to.proofs.Inside.{field_shape}
use Rattle.points_to.proofs.Masked.{few_parts}
use Rattle.points_to.proofs.instr_rules.field_rule.Goals as goal

pub has_node-requires-clause-shape : goal.has_node-requires-clause-shape
has_node-requires-clause-shape c = field_shape c.args.c.now c.requires.form c.args.shape c.args.k c.requires.part

pub part_node-requires-clause-fits : goal.part_node-requires-clause-fits
part_node-requires-clause-fits c =
    let few = few_parts c.args.c.now c.requires.form c.args.shape (sym c.has_node.ensures ∙ c.if-not-has_node.false) in
    omega (arith, few)
