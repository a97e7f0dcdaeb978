use Rattle.std.proofs.Common.{sym, subst}
use Rattle.tac_thread.specs.Guests.{IsHeld}
use Rattle.tac_thread.proofs.Held.{guest_at_rest, held_answered}
use Rattle.tac_thread.proofs.guest.Guest.feed.Goals as goal

pub run_on-requires-clause-held : goal.run_on-requires-clause-held
run_on-requires-clause-held g c =
    subst (λ l. IsHeld g.D.Domain.meaning c.args.c.now l) (sym c.in_ok-answer.ensures.ok) (held_answered g.D.Domain.meaning _ c.requires.form _ _ c.requires.kind c.requires.guest.held)

pub returns-clause-guest : goal.returns-clause-guest
returns-clause-guest g c = guest_at_rest g.D.Domain.meaning _ _ _ c.run_on.ensures.held c.run_on.ensures.runs
