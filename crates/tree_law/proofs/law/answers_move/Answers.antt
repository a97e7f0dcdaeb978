use Rattle.tree_law.proofs.lives.Moving.{answered_moves}
use Rattle.tree_law.proofs.law.answers_move.Goals as goal

pub returns : goal.returns
returns g c = λ code good l reply. answered_moves g.D.Domain.meaning code good l reply
