use Rattle.std.proofs.Common.{◌<◌, ◌-◌, ◌∙◌, arith, ap, refl, sym, subst, sum, map, Some}
use Rattle.tac_ir.specs.declared.code.Shape.{Shape}
use Rattle.tac_ir.specs.Counts.{shape_nodes}
use Rattle.flow_rules.specs.declared.leaves.Spot.{Spot}
use Rattle.flow_rules.specs.tools.Spots.{IsSpotAmong}
use Rattle.flow_rules.proofs.ShapeNodes.{shape_nodes_at}
use Rattle.flow_rules.proofs.Inside.{into_item, into_part, past_parts, past_leaf, not_past, at_first}
use Rattle.flow_rules.proofs.leaves.shape_inside.Goals as goal

pub loop-left-preserved-in-Some-Array : goal.loop-left-preserved-in-Some-Array
loop-left-preserved-in-Some-Array c =
    into_item c.args.c.now c.requires.form c.args.shape c.args.node c.loop-left.here c.loop-left.left c.in-Some-Array.field-0-0 c.in-Some-Array.item c.loop-left.invariant (omega (arith, c.loop-left-test.true))
    (sym c.in-Some-Array.ensures.value ∙ ap Some c.in-Some-Array.field-0-is)

pub spot_among-requires-clause-fits : goal.spot_among-requires-clause-fits
spot_among-requires-clause-fits c =
    let nodes = shape_nodes_at c.args.c.now c.requires.form c.loop-left.here (Shape.Struct c.in-Some-Struct.parts) (sym c.in-Some-Struct.ensures.value ∙ ap Some c.in-Some-Struct.field-0-is) in
    let fits = c.loop-left.invariant.fits in
    let whole = c.requires.fits in
    omega (arith, nodes, fits, whole, ap (λ ps. sum (map (shape_nodes c.args.c.now) ps)) c.as_slice.ensures)

pub returns-in-Behind : goal.returns-in-Behind
returns-in-Behind c =
    let low : 0 < c.loop-left.left = omega (arith, c.loop-left-test.true) in
    record {
      shape = past_parts c.args.c.now c.requires.form c.args.shape c.args.node c.loop-left.here c.loop-left.left c.in-Some-Struct.parts c.loop-left.invariant low
          (sym c.in-Some-Struct.ensures.value ∙ ap Some c.in-Some-Struct.field-0-is) c.in-Behind.node
          (subst (λ ps. IsSpotAmong c.args.c.now ps (c.loop-left.left - 1) (Spot.Behind c.in-Behind.node)) c.as_slice.ensures (subst (IsSpotAmong c.args.c.now c.as_slice.result.now (c.loop-left.left - 1)) c.in-Behind.is c.spot_among.ensures));
      few = tt;
    }

pub loop-left-preserved : goal.loop-left-preserved
loop-left-preserved c =
    let low : 0 < c.loop-left.left = omega (arith, c.loop-left-test.true) in
    into_part c.args.c.now c.requires.form c.args.shape c.args.node c.loop-left.here c.loop-left.left c.in-Some-Struct.parts c.loop-left.invariant low
    (sym c.in-Some-Struct.ensures.value ∙ ap Some c.in-Some-Struct.field-0-is) c.in-Within.shape c.in-Within.node
    (subst (λ ps. IsSpotAmong c.args.c.now ps (c.loop-left.left - 1) (Spot.Within c.in-Within.shape c.in-Within.node)) c.as_slice.ensures (subst (IsSpotAmong c.args.c.now c.as_slice.result.now (c.loop-left.left - 1)) c.in-Within.is c.spot_among.ensures))

pub returns : goal.returns
returns c =
    let fits = c.loop-left.invariant.fits in
    let whole = c.requires.fits in
    record { shape = at_first c.args.c.now c.requires.form c.args.shape c.args.node c.loop-left.here c.loop-left.left c.loop-left.invariant (omega (arith, c.loop-left-test.false)); few = omega (arith, fits, whole) }

pub returns-in-Some-Int : goal.returns-in-Some-Int
returns-in-Some-Int c =
    let low : 0 < c.loop-left.left = omega (arith, c.loop-left-test.true) in
    record { shape = past_leaf c.args.c.now c.requires.form c.args.shape c.args.node c.loop-left.here c.loop-left.left c.loop-left.invariant low Shape.Int (sym c.in-Some-Int.ensures.value ∙ ap Some c.in-Some-Int.field-0-is) refl; few = tt }

pub returns-in-Some-Ptr : goal.returns-in-Some-Ptr
returns-in-Some-Ptr c =
    let low : 0 < c.loop-left.left = omega (arith, c.loop-left-test.true) in
    record { shape = past_leaf c.args.c.now c.requires.form c.args.shape c.args.node c.loop-left.here c.loop-left.left c.loop-left.invariant low Shape.Ptr (sym c.in-Some-Ptr.ensures.value ∙ ap Some c.in-Some-Ptr.field-0-is) refl; few = tt }

pub returns-in-None : goal.returns-in-None
returns-in-None c = absurd (not_past c.args.c.now c.args.shape c.args.node c.loop-left.here c.loop-left.left c.loop-left.invariant (sym c.in-None.ensures.value))
