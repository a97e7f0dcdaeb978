use Rattle.tac_thread.proofs.Silent.{short}
use Rattle.tac_thread.proofs.law.silence_is_short.Goals as goal

pub returns : goal.returns
returns g c = λ code l last good on. short g.D.Domain.meaning code good l last on
