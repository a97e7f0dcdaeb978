use Rattle.tac_thread.proofs.Held.{guest_at_rest}
use Rattle.tac_thread.proofs.guest.Guest.joined.Goals as goal

pub returns-clause-guest : goal.returns-clause-guest
returns-clause-guest g c = guest_at_rest g.D.Domain.meaning _ _ _ c.run_on.ensures.held c.run_on.ensures.runs
