use Rattle.std.proofs.Common.{◌∙◌, sym, slice_index_or}
use Rattle.flow_rules.specs.Tables.{points_by}
use Rattle.flow_rules.specs.tools.PointRules.{Through}
use Rattle.flow_rules.proofs.PointRules.{each_next, has_item}
use Rattle.flow_rules.proofs.point_rules.all_through.Goals as goal

pub returns-then-not-through : goal.returns-then-not-through
returns-then-not-through c =
    let node = slice_index_or c.args.nodes.now c.loop-node.node-index 0 in
    (λ h. cc, λ h. (let holds = c.through.ensures.1 (h node (has_item c.args.nodes.now c.loop-node.node-index c.loop-node-test.true)) in sym c.if-not-through.true ∙ holds))

pub loop-node-preserved : goal.loop-node-preserved
loop-node-preserved c =
    each_next (Through c.args.c.now (points_by c.args.points.now.rows) c.args.fun c.args.instr.now) c.args.nodes.now c.loop-node.node-index c.loop-node-test.true c.loop-node.invariant
    (c.through.ensures.0 (c.if-not-through.false))
