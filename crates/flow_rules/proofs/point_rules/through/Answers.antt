use Rattle.std.proofs.Common.{◌≤◌, arith, subst}
use Rattle.std.specs.Prelude.{IfSome}
use Rattle.tac_ir.specs.Counts.{shape_nodes}
use Rattle.tac_ir.specs.GoodForm.{NamesExist}
use Rattle.flow_rules.proofs.PointRules.{part_fits, same_shape}
use Rattle.flow_rules.proofs.point_rules.through.Goals as goal

pub overflow_add-node : goal.overflow_add-node
overflow_add-node c =
    let few : shape_nodes c.args.c.now c.in-Field.shape ≤ 16384 = subst (λ o. IfSome o (λ s. shape_nodes c.args.c.now s ≤ 16384)) (same_shape c.shape_of_node.result c.in-Field.shape c.if-ne.ensures) c.shape_of_node.ensures.few in
    let fits = part_fits c.args.c.now c.requires.form c.in-Field.shape c.in-Field.k (subst (NamesExist c.args.c.now c.args.fun) c.in-Field.is c.requires.names) in
    omega (arith, few, fits, c.part_node.ensures, c.requires.node, c.requires.form.limits.nodes)
