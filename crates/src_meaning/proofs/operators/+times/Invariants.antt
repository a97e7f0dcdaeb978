use Rattle.std.proofs.Common.{length}
use Rattle.src_meaning.proofs.operators.+times.Given as goal

abbrev pub decreases-times : goal.decreases-times
decreases-times l = length l.lengths.now
