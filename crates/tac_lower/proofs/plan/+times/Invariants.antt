use Rattle.std.proofs.Common.{length}
use Rattle.tac_lower.proofs.plan.+times.Given as goal

abbrev pub decreases-times : goal.decreases-times
decreases-times l = length l.lengths.now
