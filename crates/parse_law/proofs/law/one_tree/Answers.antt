use Rattle.parse_law.proofs.BracketSums.{sums_one_tree}
use Rattle.parse_law.proofs.law.one_tree.Goals as goal

pub returns : goal.returns
returns c = sums_one_tree
