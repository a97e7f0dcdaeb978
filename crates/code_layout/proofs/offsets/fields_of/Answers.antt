use Rattle.std.proofs.Common.{arith, ap, slice_index, map, sum}
use Rattle.code_layout.proofs.Tables.{found_at, fields_fit}
use Rattle.code_layout.proofs.offsets.fields_of.Goals as goal

pub offsets_of-requires : goal.offsets_of-requires
offsets_of-requires c =
    let found = found_at _ c.args.code.now.shapes _ c.shape-item.result c.as_slice-shape-items.ensures c.loop-shape-test.true c.shape-item.is in
    omega (arith, fields_fit c.args.code.now c.requires.form c.args.sizes.now c.requires.sizes _ c.shape-item.result found, ap (λ xs. sum (map (slice_index c.args.sizes.now) xs)) c.parts_in.ensures)
