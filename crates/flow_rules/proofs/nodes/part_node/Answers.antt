use Rattle.std.proofs.Common.{arith, ap, map, sum, take}
use Rattle.tac_ir.specs.Counts.{shape_nodes}
use Rattle.flow_rules.proofs.PointRules.{part_fits}
use Rattle.flow_rules.proofs.nodes.part_node.Goals as goal

pub nodes_of_all-requires-clause-fits : goal.nodes_of_all-requires-clause-fits
nodes_of_all-requires-clause-fits c =
    let fits = part_fits c.args.c.now c.requires.form c.args.shape c.args.k c.requires.part in
    let whole = c.requires.fits in
    omega (arith, fits, whole, ap (λ ps. sum (map (shape_nodes c.args.c.now) (take c.args.k ps))) c.parts_of.ensures)

pub overflow_add-result : goal.overflow_add-result
overflow_add-result c =
    let fits = part_fits c.args.c.now c.requires.form c.args.shape c.args.k c.requires.part in
    let whole = c.requires.fits in
    omega (arith, fits, whole, c.nodes_of_all.ensures, ap (λ ps. sum (map (shape_nodes c.args.c.now) (take c.args.k ps))) c.parts_of.ensures)
