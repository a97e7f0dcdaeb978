use Rattle.std.proofs.Common.{arith, subst, sym}
use Rattle.guest_log.specs.Tickets.{IsRising}
use Rattle.guest_log.proofs.Tickets.{none_rises}
use Rattle.guest_log.proofs.log.Log.new.Goals as goal

pub invariant_of-result : goal.invariant_of-result
invariant_of-result c = (subst IsRising (sym c.new.ensures.items) none_rises, omega (arith, c.new.ensures))
