use Rattle.std.proofs.Common.{◌≡◌, ◌+◌, List, Bool, length, set, true, ap, sym, ◌∙◌, subst, arith}
use Rattle.least_rows.specs.Rules.{row_of}
use Rattle.points_to.specs.tools.Marked.{AreMarked}
use Rattle.points_to.proofs.Inside.{shape_exists}
use Rattle.points_to.proofs.Marking.{at_row, row_wide, shape_marked}
use Rattle.points_to.proofs.masks.mark_shape.Goals as goal

pub index_mut-requires : goal.index_mut-requires
index_mut-requires c =
    let low = shape_exists c.args.c.now c.args.node c.args.shape c.requires.shape in
    omega (arith, low, c.requires.before.count, c.args.masks.now.ok.0)

row : (c : goal.After-index_mut) → row_of c.args.masks.now.items c.args.shape ≡ c.index_mut.result.now
row c =
    let low = shape_exists c.args.c.now c.args.node c.args.shape c.requires.shape in
    at_row c.args.masks.now.items c.args.shape c.index_mut.result.now (omega (arith, low, c.requires.before.count)) c.index_mut.ensures.value

pub put-requires : goal.put-requires
put-requires c =
    let low = shape_exists c.args.c.now c.args.node c.args.shape c.requires.shape in
    let wide = row_wide c.args.c.now c.args.node c.args.node c.args.shape c.args.masks.now.items c.requires.before (omega (arith, low, c.requires.before.count)) in
    omega (arith, c.requires.node, wide, ap length (row c))

pub returns : goal.returns
returns c =
    let low = shape_exists c.args.c.now c.args.node c.args.shape c.requires.shape in
    let this = at_row c.args.masks.now.items c.args.shape c.index_mut.result.now (omega (arith, low, c.requires.before.count)) c.index_mut.ensures.value in
    subst (λ (l : List Bool). AreMarked c.args.c.now (c.args.node + 1) c.args.node (set c.args.masks.now.items c.args.shape l))
    (sym (c.put.ensures ∙ ap (λ l. set l c.args.node true) (sym this)))
    (shape_marked c.args.c.now c.args.node c.args.node c.args.shape c.args.masks.now.items c.requires.before c.requires.shape low)
