use Rattle.std.proofs.Common.{arith}
use Rattle.std.specs.Prelude.{pos}
use Rattle.flow_rules.proofs.VarNodes.{global_step}
use Rattle.flow_rules.proofs.nodes.global_node.Goals as goal

pub shape_nodes-node-requires-clause-fits : goal.shape_nodes-node-requires-clause-fits
shape_nodes-node-requires-clause-fits c =
    let step = global_step c.args.c.now c.requires.form c.as_slice.result.now c.as_slice.ensures c.args.var c.loop-global.global-index (record { shape = 0; start = pos 0; line = 0 }) c.requires.var c.loop-global-test.true in
    let fits = step.fits in
    omega (arith, fits)

pub overflow_add-node : goal.overflow_add-node
overflow_add-node c =
    let step = global_step c.args.c.now c.requires.form c.as_slice.result.now c.as_slice.ensures c.args.var c.loop-global.global-index (record { shape = 0; start = pos 0; line = 0 }) c.requires.var c.loop-global-test.true in
    let fits = step.fits in
    omega (arith, fits, c.loop-global.invariant, c.shape_nodes-node.ensures)

pub loop-global-preserved : goal.loop-global-preserved
loop-global-preserved c =
    let step = global_step c.args.c.now c.requires.form c.as_slice.result.now c.as_slice.ensures c.args.var c.loop-global.global-index (record { shape = 0; start = pos 0; line = 0 }) c.requires.var c.loop-global-test.true in
    let next = step.next in
    omega (arith, next, c.loop-global.invariant, c.shape_nodes-node.ensures)
