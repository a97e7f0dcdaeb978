use Rattle.src_law.proofs.Clean.{clean_is}
use Rattle.src_law.proofs.clean_is_by_histories.Goals as goal

pub returns : goal.returns
returns c = clean_is
