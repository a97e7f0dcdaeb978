use Rattle.tac_lower.proofs.Laws.{counted}
use Rattle.tac_lower.proofs.law.pieces_are_counted.Goals as goal

pub returns : goal.returns
returns c = counted
