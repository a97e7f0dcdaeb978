use Rattle.flow_rules.specs.tools.Reached.{HasAllCalls}
use Rattle.flow_rules.proofs.calls.add_all_calls.Given as goal

abbrev pub invariant-loop-fun : goal.invariant-loop-fun
invariant-loop-fun l = HasAllCalls l.c l.fun l.initial.set l.set l.changed
