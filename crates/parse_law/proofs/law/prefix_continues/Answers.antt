use Rattle.parse_law.proofs.BracketSums.{sums_prefix}
use Rattle.parse_law.proofs.law.prefix_continues.Goals as goal

pub returns : goal.returns
returns c = sums_prefix
