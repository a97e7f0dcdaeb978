use Rattle.std.proofs.Common.{ℕ, arith, ap, length}
use Rattle.flow_rules.specs.ReachClosed.{ReachClosedAt}
use Rattle.flow_rules.specs.ReachRows.{reach_rows}
use Rattle.flow_rules.specs.Touches.{touches}
use Rattle.flow_rules.proofs.InCode.{few_lines}
use Rattle.flow_rules.proofs.Scanned.{next_index}
use Rattle.flow_rules.proofs.closure.open_for_reach_in.Goals as goal

pub overflow_cast-at-end : goal.overflow_cast-at-end
overflow_cast-at-end c = omega (arith, few_lines c.args.c.now c.requires.form c.args.fun, ap length c.lines_of.ensures)

pub loop-at-preserved : goal.loop-at-preserved
loop-at-preserved c =
    next_index c.args.c.now (λ q. (a : ℕ) → ReachClosedAt c.args.c.now (touches c.args.c.now c.args.p.now.rows) (reach_rows c.args.c.now c.args.r.now) a q) c.args.fun c.loop-at.at c.loop-at.invariant
    (c.reach_holds.ensures.0 c.if-not-reach_holds.false)
