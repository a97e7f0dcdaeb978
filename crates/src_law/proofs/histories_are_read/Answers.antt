use Rattle.src_law.proofs.Whole.{histories_read}
use Rattle.src_law.proofs.histories_are_read.Goals as goal

pub returns : goal.returns
returns c = histories_read
