use Rattle.std.proofs.Common.{arith, subst, sym, ◌∙◌}
use Rattle.tac_ir.specs.Counts.{shapes_used}
use Rattle.flow_rules.specs.tools.Spots.{IsSpotAmong}
use Rattle.flow_rules.proofs.SpotSteps.{used_exists, used_fits, all_within, all_behind}
use Rattle.flow_rules.proofs.leaves.shape_of_node.Goals as goal

pub shape_inside-requires-clause-shape : goal.shape_inside-requires-clause-shape
shape_inside-requires-clause-shape c =
    let spot = subst (IsSpotAmong c.args.c.now (shapes_used c.args.c.now) c.args.node) c.in-Within.is c.spot_of.ensures in
    used_exists c.args.c.now c.requires spot.index c.in-Within.shape spot.listed

pub shape_inside-requires-clause-fits : goal.shape_inside-requires-clause-fits
shape_inside-requires-clause-fits c =
    let spot = subst (IsSpotAmong c.args.c.now (shapes_used c.args.c.now) c.args.node) c.in-Within.is c.spot_of.ensures in
    omega (arith, used_fits c.args.c.now c.requires spot.index c.in-Within.shape spot.listed)

pub returns-in-Within : goal.returns-in-Within
returns-in-Within c =
    let spot = subst (IsSpotAmong c.args.c.now (shapes_used c.args.c.now) c.args.node) c.in-Within.is c.spot_of.ensures in
    record { shape = c.shape_inside.ensures.shape ∙ sym (all_within c.args.c.now c.args.node c.in-Within.shape c.in-Within.node spot); few = c.shape_inside.ensures.few }

pub returns-in-Behind : goal.returns-in-Behind
returns-in-Behind c =
    let spot = subst (IsSpotAmong c.args.c.now (shapes_used c.args.c.now) c.args.node) c.in-Behind.is c.spot_of.ensures in
    record { shape = sym (all_behind c.args.c.now c.args.node c.in-Behind.node spot); few = tt }
