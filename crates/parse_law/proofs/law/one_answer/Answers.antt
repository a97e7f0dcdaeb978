use Rattle.parse_law.proofs.BracketSums.{sums_answer}
use Rattle.parse_law.proofs.law.one_answer.Goals as goal

pub returns : goal.returns
returns c = sums_answer
