use Rattle.test_stripes.specs.Stays.{IsFamily}
use Rattle.test_stripes.proofs.scene.run_all.Given as goal

abbrev pub invariant-loop-step : goal.invariant-loop-step
invariant-loop-step l = IsFamily l.memory l.passes
