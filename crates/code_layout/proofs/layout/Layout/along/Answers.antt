use Rattle.std.proofs.Common.{◌∙◌, ap, arith, slice_index}
use Rattle.code_layout.proofs.Paths.{next_part, along_more, along_fits}
use Rattle.code_layout.proofs.layout.Layout.along.Goals as goal

pub overflow_add-total : goal.overflow_add-total
overflow_add-total c =
    let next = next_part _ _ _ _ _ _ c.loop-k-test.true c.loop-k.invariant in
    let words = c.field_offset-total.ensures c.args.c.now c.requires.laid next.exists in
    omega (arith, along_fits c.args.c.now c.requires.form c.args.shape c.args.path.now _ _ _ _ c.requires.path c.loop-k-test.true c.loop-k.invariant words)

pub loop-k-preserved : goal.loop-k-preserved
loop-k-preserved c =
    let next = next_part _ _ _ _ _ _ c.loop-k-test.true c.loop-k.invariant in
    let words = c.field_offset-total.ensures c.args.c.now c.requires.laid next.exists in
    let at = c.shape_at-here.ensures ∙ ap (λ xs. slice_index xs (slice_index c.args.path.now c.loop-k.k-index)) c.parts_of.ensures in
    along_more c.args.c.now c.args.shape c.args.path.now _ _ _ _ _ c.loop-k-test.true c.loop-k.invariant words at
