use Rattle.std.proofs.Common.{ℕ}
use Rattle.flow_rules.specs.ReachClosed.{ReachClosedAt}
use Rattle.flow_rules.specs.ReachRows.{reach_rows}
use Rattle.flow_rules.specs.Touches.{touches}
use Rattle.flow_rules.specs.tools.Scan.{HoldsBefore}
use Rattle.flow_rules.proofs.closure.open_for_reach.Given as goal

abbrev pub invariant-loop-fun : goal.invariant-loop-fun
invariant-loop-fun l = HoldsBefore l.c (λ q. (a : ℕ) → ReachClosedAt l.c (touches l.c l.p.rows) (reach_rows l.c l.r) a q) l.fun
