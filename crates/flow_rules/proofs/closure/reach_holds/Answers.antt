use Rattle.flow_rules.proofs.ReachAt.{rules_if}
use Rattle.flow_rules.proofs.closure.reach_holds.Goals as goal

pub returns : goal.returns
returns c =
    rules_if c.args.c.now c.requires.form c.args.points.now.rows c.requires.points c.args.r.now c.requires.reach c.args.p c.requires.point c.killed_at.result c.killed_at.ensures c.begins_well-begun.result c.edges_hold-led.result c.joins_hold-joined.result
    c.begins_well-begun.ensures c.edges_hold-led.ensures c.joins_hold-joined.ensures
