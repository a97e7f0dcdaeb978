use Rattle.tac_thread.specs.Guests.{IsHeld}
use Rattle.tac_thread.specs.tools.Left.{left_of}
use Rattle.tac_thread.proofs.Runs.{Continues}
use Rattle.tac_thread.proofs.guest.Guest.run_on.Given as goal

abbrev pub invariant-loop : goal.invariant-loop
invariant-loop g l =
    IsHeld g.D.Domain.meaning l.c l.self × Continues g.D.Domain.meaning l.c l.initial.self l.self

abbrev pub decreases-loop : goal.decreases-loop
decreases-loop g l = left_of l.c l.self
