use Rattle.std.proofs.Common.{◌≡◌, ◌++◌, drop}
use Rattle.obj_run.specs.Runs.{outputs_of}
use Rattle.obj_run.proofs.threads.outputs_of.Given as goal

abbrev pub invariant-loop-stamp : goal.invariant-loop-stamp
invariant-loop-stamp l = l.outputs.items ++ outputs_of (drop l.stamp-index l.events) ≡ outputs_of l.events
