use Rattle.std.proofs.Common.{sym, ◌∙◌, ap}
use Rattle.flat_core.proofs.Frames.{asked_exists, takes_frame, called, no_frame}
use Rattle.flat_core.proofs.store.Store.call.Goals as goal

pub enter-requires-clause-exists : goal.enter-requires-clause-exists
enter-requires-clause-exists c = asked_exists c.args.m.now c.args.guest.now c.args.fun c.args.asked c.m.inside.code (ap (λ m. m.code) c.m.view_is) c.requires.can_run c.requires.asks c.requires.op

pub feed-requires-clause-kind : goal.feed-requires-clause-kind
feed-requires-clause-kind c =
    takes_frame c.args.m.now c.args.guest.now c.args.fun c.args.asked c.in-Some.stack c.m.inside.code (ap (λ m. m.code) c.m.view_is) c.requires.asks c.requires.op (sym c.enter.ensures ∙ c.in-Some.is)

pub returns-in_ok-feed-in-Some-clause-ok : goal.returns-in_ok-feed-in-Some-clause-ok
returns-in_ok-feed-in-Some-clause-ok c = λ input h n store.
    called c.args.m.now input h c.args.guest.now c.feed.new.self c.args.self.now n c.args.fun c.args.asked c.in-Some.stack c.m.inside.code (ap (λ m. m.code) c.m.view_is)
    store c.requires.asks c.requires.op (sym c.enter.ensures ∙ c.in-Some.is) c.in_ok-feed-in-Some.ensures.runs c.in_ok-feed-in-Some.ensures.guest

pub returns-in-None-clause-ok : goal.returns-in-None-clause-ok
returns-in-None-clause-ok c = λ input h n store.
    no_frame c.args.m.now input h c.args.guest.now c.args.self.now n c.args.fun c.args.asked c.m.inside.code (ap (λ m. m.code) c.m.view_is) store c.requires.op (sym c.enter.ensures ∙ c.in-None.is)
