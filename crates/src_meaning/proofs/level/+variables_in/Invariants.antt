use Rattle.std.proofs.Common.{length}
use Rattle.src_meaning.proofs.level.+variables_in.Given as goal

abbrev pub decreases-variables_in : goal.decreases-variables_in
decreases-variables_in l = length l.functions.now
