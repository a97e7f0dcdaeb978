use Rattle.flow_rules.specs.tools.Reached.{IsGrowing, gaps}
use Rattle.flow_rules.proofs.calls.add_reached.Given as goal

abbrev pub invariant-loop : goal.invariant-loop
invariant-loop l = IsGrowing l.c l.initial.set l.set

abbrev pub decreases-loop : goal.decreases-loop
decreases-loop l = gaps l.set
