use Rattle.tac_lower.proofs.Laws.{typed}
use Rattle.tac_lower.proofs.law.pieces_are_typed.Goals as goal

pub returns : goal.returns
returns c = typed
