use Rattle.flow_rules.proofs.Covering.{IsOpen}
use Rattle.flow_rules.proofs.cover.is_covered.Given as goal

abbrev pub invariant-loop-at : goal.invariant-loop-at
invariant-loop-at l = IsOpen l.md l.fn.p.fun l.fn.p.at l.read l.place l.at

abbrev pub decreases-loop-at : goal.decreases-loop-at
decreases-loop-at l = l.at
