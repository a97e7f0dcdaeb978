use Rattle.std.proofs.Common.{rules, arith, subst, sym}
use Rattle.guest_log.specs.Tickets.{IsRising}
use Rattle.guest_log.proofs.Tickets.{rises_on}
use Rattle.guest_log.proofs.log.Log.push.Goals as goal

pub invariant_of-self : goal.invariant_of-self
invariant_of-self c =
    (subst IsRising (sym c.push_reserved.ensures.items) (rises_on c.self.inside.items.items c.args.newest c.self.invariant.0 (search rules)), search rules)
