use Rattle.std.proofs.Common.{refl, sym, ◌∙◌, ap}
use Rattle.path_law.specs.Wants.{room_in}
use Rattle.path_law.proofs.Telling.{silent_stops}
use Rattle.flat_core.specs.tools.Asked.{entry_of}
use Rattle.flat_core.proofs.Performing.{plain_takes_no_stack, takes_answered, turned_told, turned_stop}
use Rattle.flat_core.proofs.store.Store.plain.Goals as goal

pub feed-requires-clause-kind : goal.feed-requires-clause-kind
feed-requires-clause-kind c =
    let a = c.args.asked in
    let of_run = c.requires.store in
    takes_answered c.args.m.now of_run.0 of_run.1 c.args.guest.now 0 0 a c.answer-answer.result c.in-Some.reply c.m.inside.code (ap (λ m. m.code) c.m.view_is) c.requires.asks
    (plain_takes_no_stack a.op c.requires.plain) (c.answer-answer.ensures of_run.0 of_run.1 0 0 c.requires.plain of_run.2) (sym c.reply_to.ensures ∙ c.in-Some.is)

pub returns-in_ok-feed-clause-ok : goal.returns-in_ok-feed-clause-ok
returns-in_ok-feed-clause-ok c = λ input h n store.
    let a = c.args.asked in
    let is = c.answer-answer.ensures input h n (room_in a.stack) c.requires.plain store in
    turned_told c.args.m.now input h c.args.guest.now c.feed.new.self c.keep.new.self n a c.answer-answer.result c.in-Some.reply c.m.inside.code (ap (λ m. m.code) c.m.view_is)
    c.requires.asks (plain_takes_no_stack a.op c.requires.plain) is (sym c.reply_to.ensures ∙ c.in-Some.is)
    c.in_ok-feed.ensures.runs c.in_ok-feed.ensures.guest (c.keep.ensures input h (entry_of n a c.answer-answer.result) n (room_in a.stack) c.requires.plain store refl is)

pub returns-in_default-clause-ok : goal.returns-in_default-clause-ok
returns-in_default-clause-ok c = λ input h n store.
    let a = c.args.asked in
    let answer = c.answer-answer.result in
    turned_stop c.args.m.now input h c.args.guest.now c.args.self.now n a answer (c.answer-answer.ensures input h n (room_in a.stack) c.requires.plain store)
    (silent_stops answer (sym c.reply_to.ensures ∙ c.in_default.is)) store.layout
