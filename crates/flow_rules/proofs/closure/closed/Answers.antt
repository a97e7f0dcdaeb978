use Rattle.flow_rules.specs.ReachRows.{reach_rows}
use Rattle.flow_rules.proofs.Told.{points_closed, reach_closed}
use Rattle.flow_rules.proofs.closure.closed.Goals as goal

pub returns-in-Some-open_for_reach : goal.returns-in-Some-open_for_reach
returns-in-Some-open_for_reach c = (points_closed c.args.c.now c.args.p.now.rows c.in_default.ensures, c.in-Some-open_for_reach.ensures)

pub returns : goal.returns
returns c = record {
  points = points_closed c.args.c.now c.args.p.now.rows c.in_default.ensures;
  reach = reach_closed c.args.c.now c.requires.form c.args.p.now.rows (reach_rows c.args.c.now c.args.r.now) c.in_default-open_for_reach.ensures;
}
