use Rattle.std.proofs.Common.{◌+◌, arith, sym, subst, slice_index}
use Rattle.std.proofs.lemmas.List.{length-take-le}
use Rattle.flow_rules.proofs.PathNodes.{IsAlong, along_step, along_start, along_end}
use Rattle.flow_rules.proofs.nodes.nodes_along.Goals as goal

pub loop-k-init : goal.loop-k-init
loop-k-init c = along_start c.args.c.now c.args.shape c.args.path.now c.requires.path

pub slice_bounds-nodes_of_all-end : goal.slice_bounds-nodes_of_all-end
slice_bounds-nodes_of_all-end c =
    let step = along_step c.args.c.now c.requires.form c.args.shape c.args.path.now c.loop-k.k-index c.loop-k.node c.loop-k.here c.parts_of-parts.result.now c.parts_of-parts.ensures c.loop-k.invariant c.loop-k-test.true in
    let low = step.low in
    sym (length-take-le (slice_index c.args.path.now c.loop-k.k-index) c.parts_of-parts.result.now (omega (arith, low)))

pub nodes_of_all-requires-clause-fits : goal.nodes_of_all-requires-clause-fits
nodes_of_all-requires-clause-fits c =
    let step = along_step c.args.c.now c.requires.form c.args.shape c.args.path.now c.loop-k.k-index c.loop-k.node c.loop-k.here c.parts_of-parts.result.now c.parts_of-parts.ensures c.loop-k.invariant c.loop-k-test.true in
    let fits = step.fits in
    omega (arith, fits, c.requires.fits)

pub overflow_add-node : goal.overflow_add-node
overflow_add-node c =
    let step = along_step c.args.c.now c.requires.form c.args.shape c.args.path.now c.loop-k.k-index c.loop-k.node c.loop-k.here c.parts_of-parts.result.now c.parts_of-parts.ensures c.loop-k.invariant c.loop-k-test.true in
    let fits = step.fits in
    omega (arith, fits, c.requires.fits, c.nodes_of_all.ensures)

pub overflow_add-node-in-loop-k : goal.overflow_add-node-in-loop-k
overflow_add-node-in-loop-k c =
    let step = along_step c.args.c.now c.requires.form c.args.shape c.args.path.now c.loop-k.k-index c.loop-k.node c.loop-k.here c.parts_of-parts.result.now c.parts_of-parts.ensures c.loop-k.invariant c.loop-k-test.true in
    let fits = step.fits in
    omega (arith, fits, c.requires.fits, c.nodes_of_all.ensures)

pub bounds-parts-k : goal.bounds-parts-k
bounds-parts-k c =
    let step = along_step c.args.c.now c.requires.form c.args.shape c.args.path.now c.loop-k.k-index c.loop-k.node c.loop-k.here c.parts_of-parts.result.now c.parts_of-parts.ensures c.loop-k.invariant c.loop-k-test.true in
    step.low

pub loop-k-preserved : goal.loop-k-preserved
loop-k-preserved c =
    let step = along_step c.args.c.now c.requires.form c.args.shape c.args.path.now c.loop-k.k-index c.loop-k.node c.loop-k.here c.parts_of-parts.result.now c.parts_of-parts.ensures c.loop-k.invariant c.loop-k-test.true in
    subst (λ n. IsAlong c.args.c.now c.args.shape c.args.path.now (c.loop-k.k-index + 1) (c.loop-k.node + (1 + n)) (slice_index c.parts_of-parts.result.now (slice_index c.args.path.now c.loop-k.k-index))) (sym c.nodes_of_all.ensures) step.next

pub returns : goal.returns
returns c = along_end c.args.c.now c.args.shape c.args.path.now c.loop-k.k-index c.loop-k.node c.loop-k.here c.loop-k.invariant (omega (arith, c.loop-k-test.false))
