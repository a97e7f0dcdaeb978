use Rattle.std.proofs.Common.{◌∙◌, ap, arith, sym}
use Rattle.tac_ir.specs.Nodes.{var_node}
use Rattle.flow_rules.proofs.SpotSteps.{first_site, site_step}
use Rattle.flow_rules.proofs.nodes.site_node.Goals as goal

pub shape_nodes-node-requires-clause-fits : goal.shape_nodes-node-requires-clause-fits
shape_nodes-node-requires-clause-fits c =
    let step = site_step c.args.c.now c.requires.form c.as_slice.result.now c.as_slice.ensures c.args.site c.loop-before.before-index (record { shape = 0; line = 0 }) c.requires.site c.loop-before-test.true in
    let fits = step.fits in
    omega (arith, fits)

pub overflow_add-node : goal.overflow_add-node
overflow_add-node c =
    let step = site_step c.args.c.now c.requires.form c.as_slice.result.now c.as_slice.ensures c.args.site c.loop-before.before-index (record { shape = 0; line = 0 }) c.requires.site c.loop-before-test.true in
    let fits = step.fits in
    omega (arith, fits, c.loop-before.invariant, c.shape_nodes-node.ensures)

pub loop-before-preserved : goal.loop-before-preserved
loop-before-preserved c =
    let step = site_step c.args.c.now c.requires.form c.as_slice.result.now c.as_slice.ensures c.args.site c.loop-before.before-index (record { shape = 0; line = 0 }) c.requires.site c.loop-before-test.true in
    let next = step.next in
    omega (arith, next, c.loop-before.invariant, c.shape_nodes-node.ensures)

pub loop-before-init : goal.loop-before-init
loop-before-init c = c.fun_node-node.ensures ∙ ap (λ n. var_node c.args.c.now n 0) c.len.ensures ∙ sym (first_site c.args.c.now)
