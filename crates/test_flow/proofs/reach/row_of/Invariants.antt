use Rattle.std.proofs.Common.{◌≡◌, length}
use Rattle.test_flow.proofs.reach.row_of.Given as goal

abbrev pub invariant-loop-fact : goal.invariant-loop-fact
invariant-loop-fact l = length l.row ≡ l.width
