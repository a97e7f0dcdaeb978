use Rattle.std.proofs.Common.{arith, refl, slice_index_or}
use Rattle.tac_ir.specs.Counts.{shape_nodes}
use Rattle.flow_rules.proofs.ShapeNodes.{nodes_with}
use Rattle.flow_rules.proofs.Spots.{next_spot}
use Rattle.flow_rules.proofs.SpotSteps.{stops}
use Rattle.flow_rules.proofs.leaves.spot_among.Goals as goal

pub spot_in-requires-clause-fits : goal.spot_in-requires-clause-fits
spot_in-requires-clause-fits c = omega (arith, nodes_with (shape_nodes c.args.c.now) c.args.shapes.now c.loop-shape.shape-index 0 c.loop-shape-test.true, c.requires.fits)

pub returns-in_default : goal.returns-in_default
returns-in_default c =
    stops c.args.c.now c.args.shapes.now c.loop-shape.shape-index c.args.node c.spot_in.result c.in_default.not-Behind
    (next_spot c.args.c.now c.args.shapes.now c.loop-shape.shape-index c.args.node c.loop-shape.left (slice_index_or c.args.shapes.now c.loop-shape.shape-index 0) c.loop-shape-test.true refl c.loop-shape.invariant c.spot_in.result c.spot_in.ensures)
