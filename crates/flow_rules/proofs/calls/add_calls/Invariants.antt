use Rattle.flow_rules.specs.tools.Reached.{HasCalls}
use Rattle.flow_rules.proofs.calls.add_calls.Given as goal

abbrev pub invariant-loop-at : goal.invariant-loop-at
invariant-loop-at l = HasCalls l.c l.fun l.from l.at l.initial.set l.set l.changed
