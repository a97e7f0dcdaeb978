use Rattle.std.proofs.Common.{length}
use Rattle.src_meaning.proofs.level.Level.+passed.Given as goal

abbrev pub decreases-passed : goal.decreases-passed
decreases-passed l = length l.arguments.now
