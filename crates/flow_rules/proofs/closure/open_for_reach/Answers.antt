use Rattle.std.proofs.Common.{ℕ}
use Rattle.flow_rules.specs.ReachClosed.{ReachClosedAt}
use Rattle.flow_rules.specs.ReachRows.{reach_rows}
use Rattle.flow_rules.specs.Touches.{touches}
use Rattle.flow_rules.proofs.Scanned.{first_open, next_fun}
use Rattle.flow_rules.proofs.closure.open_for_reach.Goals as goal

pub returns-in-Some : goal.returns-in-Some
returns-in-Some c =
    first_open c.args.c.now (λ q. (a : ℕ) → ReachClosedAt c.args.c.now (touches c.args.c.now c.args.p.now.rows) (reach_rows c.args.c.now c.args.r.now) a q) c.loop-fun.fun c.in-Some.at c.loop-fun.invariant c.in-Some.ensures

pub loop-fun-preserved : goal.loop-fun-preserved
loop-fun-preserved c =
    next_fun c.args.c.now (λ q. (a : ℕ) → ReachClosedAt c.args.c.now (touches c.args.c.now c.args.p.now.rows) (reach_rows c.args.c.now c.args.r.now) a q) c.loop-fun.fun c.loop-fun.invariant c.in_default.ensures
