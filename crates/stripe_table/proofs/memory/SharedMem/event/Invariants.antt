use Rattle.stripe_rule.specs.Terms.{terms_of}
use Rattle.stripe_rule.specs.Serving.{content_after}
use Rattle.stripe_steps.specs.Carried.{front}
use Rattle.stripe_table.proofs.memory.SharedMem.event.Given as goal

abbrev pub ghosts-draw : goal.ghosts-draw
ghosts-draw a = record { entry = a.entry; next = content_after (terms_of a.self.now.plan) a.entry.op (front a.seat.now.me) }
