use Rattle.std.proofs.Common.{arith, subst, slice_index_or, ◌∷◌, []}
use Rattle.std.specs.Prelude.{pos}
use Rattle.tac_ir.specs.Layout.{shapes_of_globals}
use Rattle.flow_rules.specs.declared.leaves.Spot.{Spot}
use Rattle.flow_rules.specs.tools.Spots.{IsSpotAmong}
use Rattle.flow_rules.proofs.Spots.{next_spot}
use Rattle.flow_rules.proofs.SpotSteps.{global_item, stops}
use Rattle.flow_rules.proofs.leaves.spot_in_globals.Goals as goal

pub spot_in-requires-clause-fits : goal.spot_in-requires-clause-fits
spot_in-requires-clause-fits c =
    let item = global_item c.args.c.now c.requires c.as_slice-global-items.result.now c.as_slice-global-items.ensures c.loop-global.global-index (record { shape = 0; start = pos 0; line = 0 }) c.loop-global-test.true in
    let fits = item.fits in
    omega (arith, fits)

pub returns-in_default : goal.returns-in_default
returns-in_default c =
    let item = global_item c.args.c.now c.requires c.as_slice-global-items.result.now c.as_slice-global-items.ensures c.loop-global.global-index (record { shape = 0; start = pos 0; line = 0 }) c.loop-global-test.true in
    stops c.args.c.now (shapes_of_globals c.args.c.now) c.loop-global.global-index c.args.node c.spot_in.result c.in_default.not-Behind
    (next_spot c.args.c.now (shapes_of_globals c.args.c.now) c.loop-global.global-index c.args.node c.loop-global.left (slice_index_or c.as_slice-global-items.result.now c.loop-global.global-index (record { shape = 0; start = pos 0; line = 0 })).shape item.low item.item c.loop-global.invariant c.spot_in.result c.spot_in.ensures)

pub loop-global-preserved : goal.loop-global-preserved
loop-global-preserved c =
    let item = global_item c.args.c.now c.requires c.as_slice-global-items.result.now c.as_slice-global-items.ensures c.loop-global.global-index (record { shape = 0; start = pos 0; line = 0 }) c.loop-global-test.true in
    let shape = (slice_index_or c.as_slice-global-items.result.now c.loop-global.global-index (record { shape = 0; start = pos 0; line = 0 })).shape in
    next_spot c.args.c.now (shapes_of_globals c.args.c.now) c.loop-global.global-index c.args.node c.loop-global.left shape item.low item.item c.loop-global.invariant
    (Spot.Behind c.in-Behind.node) (subst (IsSpotAmong c.args.c.now (shape ∷ []) c.loop-global.left) c.in-Behind.is c.spot_in.ensures)
