use Rattle.test_flow.specs.Worked.{AreRows}
use Rattle.test_flow.proofs.reach.rows_of.Given as goal

abbrev pub invariant-loop-point : goal.invariant-loop-point
invariant-loop-point l = AreRows l.point l.width l.rows
