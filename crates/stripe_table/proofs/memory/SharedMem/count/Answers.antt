use Rattle.stripe_rule.specs.Terms.{terms_of}
use Rattle.stripe_rule.proofs.Serving.{tick_serves}
use Rattle.stripe_table.proofs.memory.SharedMem.count.Goals as goal

pub draw-ticket-requires-clause-serves : goal.draw-ticket-requires-clause-serves
draw-ticket-requires-clause-serves c = tick_serves (terms_of c.args.self.now.steps.plan) c.look-seen.new.seat.me.0 c.args.entry c.requires.tick
