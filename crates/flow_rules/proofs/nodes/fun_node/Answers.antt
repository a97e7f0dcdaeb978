use Rattle.std.proofs.Common.{arith, ap, sum, map}
use Rattle.tac_ir.specs.Counts.{shape_nodes}
use Rattle.flow_rules.proofs.VarNodes.{fun_step}
use Rattle.flow_rules.proofs.nodes.fun_node.Goals as goal

pub nodes_of_all-node-requires-clause-fits : goal.nodes_of_all-node-requires-clause-fits
nodes_of_all-node-requires-clause-fits c =
    let step = fun_step c.args.c.now c.requires.form c.as_slice.result.now c.as_slice.ensures c.args.fun c.loop-before.before-index c.before-item.result c.requires.fun c.loop-before-test.true c.before-item.is in
    let fits = step.fits in
    omega (arith, fits, ap (λ xs. sum (map (shape_nodes c.args.c.now) xs)) c.as_slice-in-loop-before.ensures)

pub overflow_add-node : goal.overflow_add-node
overflow_add-node c =
    let step = fun_step c.args.c.now c.requires.form c.as_slice.result.now c.as_slice.ensures c.args.fun c.loop-before.before-index c.before-item.result c.requires.fun c.loop-before-test.true c.before-item.is in
    let fits = step.fits in
    omega (arith, fits, c.loop-before.invariant, c.nodes_of_all-node.ensures, ap (λ xs. sum (map (shape_nodes c.args.c.now) xs)) c.as_slice-in-loop-before.ensures)

pub loop-before-preserved : goal.loop-before-preserved
loop-before-preserved c =
    let step = fun_step c.args.c.now c.requires.form c.as_slice.result.now c.as_slice.ensures c.args.fun c.loop-before.before-index c.before-item.result c.requires.fun c.loop-before-test.true c.before-item.is in
    let next = step.next in
    omega (arith, next, c.loop-before.invariant, c.nodes_of_all-node.ensures, ap (λ xs. sum (map (shape_nodes c.args.c.now) xs)) c.as_slice-in-loop-before.ensures)
