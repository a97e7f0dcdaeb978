use Rattle.std.proofs.Common.{arith, subst, slice_index_or, ◌∷◌, []}
use Rattle.flow_rules.proofs.VarNodes.{sites_of}
use Rattle.flow_rules.specs.declared.leaves.Spot.{Spot}
use Rattle.flow_rules.specs.tools.Spots.{IsSpotAmong}
use Rattle.flow_rules.proofs.Spots.{next_spot}
use Rattle.flow_rules.proofs.SpotSteps.{site_item, stops}
use Rattle.flow_rules.proofs.leaves.spot_in_sites.Goals as goal

pub spot_in-requires-clause-fits : goal.spot_in-requires-clause-fits
spot_in-requires-clause-fits c =
    let item = site_item c.args.c.now c.requires c.as_slice-site-items.result.now c.as_slice-site-items.ensures c.loop-site.site-index (record { shape = 0; line = 0 }) c.loop-site-test.true in
    let fits = item.fits in
    omega (arith, fits)

pub returns-in_default : goal.returns-in_default
returns-in_default c =
    let item = site_item c.args.c.now c.requires c.as_slice-site-items.result.now c.as_slice-site-items.ensures c.loop-site.site-index (record { shape = 0; line = 0 }) c.loop-site-test.true in
    stops c.args.c.now (sites_of c.args.c.now) c.loop-site.site-index c.args.node c.spot_in.result c.in_default.not-Behind
    (next_spot c.args.c.now (sites_of c.args.c.now) c.loop-site.site-index c.args.node c.loop-site.left (slice_index_or c.as_slice-site-items.result.now c.loop-site.site-index (record { shape = 0; line = 0 })).shape item.low item.item c.loop-site.invariant c.spot_in.result c.spot_in.ensures)

pub loop-site-preserved : goal.loop-site-preserved
loop-site-preserved c =
    let item = site_item c.args.c.now c.requires c.as_slice-site-items.result.now c.as_slice-site-items.ensures c.loop-site.site-index (record { shape = 0; line = 0 }) c.loop-site-test.true in
    let shape = (slice_index_or c.as_slice-site-items.result.now c.loop-site.site-index (record { shape = 0; line = 0 })).shape in
    next_spot c.args.c.now (sites_of c.args.c.now) c.loop-site.site-index c.args.node c.loop-site.left shape item.low item.item c.loop-site.invariant
    (Spot.Behind c.in-Behind.node) (subst (IsSpotAmong c.args.c.now (shape ∷ []) c.loop-site.left) c.in-Behind.is c.spot_in.ensures)
