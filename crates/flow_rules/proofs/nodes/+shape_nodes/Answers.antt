use Rattle.std.proofs.Common.{◌≡◌, ◌+◌, ◌<◌, length, map, sum, take, slice_index, arith, sym, ap, ◌∙◌, Some, slice_index_or}
use Rattle.std.proofs.lemmas.List.{take_all}
use Rattle.tac_ir.specs.declared.code.Shape.{Shape}
use Rattle.tac_ir.specs.Counts.{shape_nodes}
use Rattle.flow_rules.proofs.ShapeNodes.{shape_nodes_at, no_nodes, item_of, part_of}
use Rattle.flow_rules.proofs.nodes.+shape_nodes.Goals as goal

pub shape_nodes-requires : goal.shape_nodes-requires
shape_nodes-requires t c =
    let item = item_of c.args.c.now c.requires.form c.args.shape c.in-Some-Array.field-0-0 c.in-Some-Array.item (sym c.in-Some-Array.ensures.value ∙ ap Some c.in-Some-Array.field-0-is) in
    let earlier = item.earlier in
    let nodes = item.nodes in
    let fits = c.requires.fits in
    (omega (arith, earlier, c.decreases), (c.requires.form, omega (arith, nodes, fits)))

pub overflow_add-result : goal.overflow_add-result
overflow_add-result t c =
    let item = item_of c.args.c.now c.requires.form c.args.shape c.in-Some-Array.field-0-0 c.in-Some-Array.item (sym c.in-Some-Array.ensures.value ∙ ap Some c.in-Some-Array.field-0-is) in
    let nodes = item.nodes in
    let fits = c.requires.fits in
    omega (arith, nodes, fits, c.shape_nodes.ensures)

pub shape_nodes-nodes-requires : goal.shape_nodes-nodes-requires
shape_nodes-nodes-requires t c =
    let low : c.loop-part.part-index < length c.in-Some-Struct.parts = omega (arith, c.loop-part-test.true, ap length c.as_slice-part-items.ensures) in
    let part = part_of c.args.c.now c.requires.form c.args.shape c.in-Some-Struct.parts c.loop-part.part-index (sym c.in-Some-Struct.ensures.value ∙ ap Some c.in-Some-Struct.field-0-is) low in
    let here : slice_index_or c.as_slice-part-items.result.now c.loop-part.part-index 0 ≡ slice_index c.in-Some-Struct.parts c.loop-part.part-index = ap (λ ps. slice_index ps c.loop-part.part-index) c.as_slice-part-items.ensures in
    let earlier = part.earlier in
    let fits = part.fits in
    let whole = c.requires.fits in
    (omega (arith, earlier, here, c.decreases), (c.requires.form, omega (arith, fits, whole, ap (shape_nodes c.args.c.now) here)))

pub overflow_add-nodes : goal.overflow_add-nodes
overflow_add-nodes t c =
    let low : c.loop-part.part-index < length c.in-Some-Struct.parts = omega (arith, c.loop-part-test.true, ap length c.as_slice-part-items.ensures) in
    let part = part_of c.args.c.now c.requires.form c.args.shape c.in-Some-Struct.parts c.loop-part.part-index (sym c.in-Some-Struct.ensures.value ∙ ap Some c.in-Some-Struct.field-0-is) low in
    let here : slice_index_or c.as_slice-part-items.result.now c.loop-part.part-index 0 ≡ slice_index c.in-Some-Struct.parts c.loop-part.part-index = ap (λ ps. slice_index ps c.loop-part.part-index) c.as_slice-part-items.ensures in
    let now = c.loop-part.invariant ∙ ap (λ ps. 1 + sum (map (shape_nodes c.args.c.now) (take c.loop-part.part-index ps))) c.as_slice-part-items.ensures in
    let fits = part.fits in
    let whole = c.requires.fits in
    omega (arith, fits, whole, now, c.shape_nodes-nodes.ensures, ap (shape_nodes c.args.c.now) here)

pub returns-in-None : goal.returns-in-None
returns-in-None t c = sym (no_nodes c.args.c.now c.args.shape (sym c.in-None.ensures.value))

pub returns-in-Some-Array : goal.returns-in-Some-Array
returns-in-Some-Array t c =
    let item = item_of c.args.c.now c.requires.form c.args.shape c.in-Some-Array.field-0-0 c.in-Some-Array.item (sym c.in-Some-Array.ensures.value ∙ ap Some c.in-Some-Array.field-0-is) in
    let nodes = item.nodes in
    omega (arith, nodes, c.shape_nodes.ensures)

pub returns-after-loop-part : goal.returns-after-loop-part
returns-after-loop-part t c =
    let all : take c.loop-part.part-index c.in-Some-Struct.parts ≡ c.in-Some-Struct.parts = take_all c.loop-part.part-index c.in-Some-Struct.parts (omega (arith, c.loop-part-test.false, ap length c.as_slice-part-items.ensures)) in
    let now = c.loop-part.invariant ∙ ap (λ ps. 1 + sum (map (shape_nodes c.args.c.now) (take c.loop-part.part-index ps))) c.as_slice-part-items.ensures in
    let nodes = shape_nodes_at c.args.c.now c.requires.form c.args.shape (Shape.Struct c.in-Some-Struct.parts) (sym c.in-Some-Struct.ensures.value ∙ ap Some c.in-Some-Struct.field-0-is) in
    now ∙ ap (λ ps. 1 + sum (map (shape_nodes c.args.c.now) ps)) all ∙ sym nodes

pub returns-in-Some-Int : goal.returns-in-Some-Int
returns-in-Some-Int t c = sym (shape_nodes_at c.args.c.now c.requires.form c.args.shape Shape.Int (sym c.in-Some-Int.ensures.value ∙ ap Some c.in-Some-Int.field-0-is))

pub returns-in-Some-Ptr : goal.returns-in-Some-Ptr
returns-in-Some-Ptr t c = sym (shape_nodes_at c.args.c.now c.requires.form c.args.shape Shape.Ptr (sym c.in-Some-Ptr.ensures.value ∙ ap Some c.in-Some-Ptr.field-0-is))
