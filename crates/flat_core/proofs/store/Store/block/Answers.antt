use Rattle.std.proofs.Common.{◌≡◌, refl, true, Ok, sym, ◌∙◌, ap, subst}
use mir.Facts.{to_z-of_z}
use Rattle.tac_ir.specs.declared.run.Op.{Op}
use Rattle.code_layout.specs.LayoutOf.{IsLayoutOf}
use Rattle.path_law.specs.Wants.{room_in}
use Rattle.path_law.specs.Replies.{is_told, takes_no_stack}
use Rattle.path_law.proofs.Telling.{told_of, replied_goes, silent_stops, block_value}
use Rattle.flat_core.specs.tools.Asked.{entry_of}
use Rattle.flat_core.proofs.Keeping.{untaken}
use Rattle.flat_core.proofs.Performing.{takes_answered, turned_told, turned_stop}
use Rattle.flat_core.proofs.store.Store.block.Goals as goal

pub feed-requires-clause-kind : goal.feed-requires-clause-kind
feed-requires-clause-kind c =
    let a = c.args.asked in
    let answer = c.in_ok-answer.answer in
    let of_run = c.requires.store in
    let op = subst (λ k. a.op ≡ Op.New c.args.site k) (sym (to_z-of_z c.ranges.count)) c.requires.op in
    let taken = c.in_ok-answer.ensures.answer of_run.0 of_run.1 (entry_of 0 a answer) of_run.2 op refl in
    takes_answered c.args.m.now of_run.0 of_run.1 c.args.guest.now 0 0 a answer c.in-Some.reply c.m.inside.code (ap (λ m. m.code) c.m.view_is) c.requires.asks (ap takes_no_stack c.requires.op) (taken.answer 0 0)
    (sym c.reply_to.ensures ∙ c.in-Some.is)

pub returns-in-Err-clause-err : goal.returns-in-Err-clause-err
returns-in-Err-clause-err c =
    let a = c.args.asked in
    let answer = c.in_ok-answer.answer in
    let of_run = c.requires.store in
    let op = subst (λ k. a.op ≡ Op.New c.args.site k) (sym (to_z-of_z c.ranges.count)) c.requires.op in
    let taken = c.in_ok-answer.ensures.answer of_run.0 of_run.1 (entry_of 0 a answer) of_run.2 op refl in
    let goes = replied_goes answer c.in-Some.reply (sym c.reply_to.ensures ∙ c.in-Some.is) in
    let told = told_of c.args.m.now of_run.0 of_run.1 0 0 a.op answer (ap takes_no_stack c.requires.op) (taken.answer 0 0) goes in
    let v = block_value c.args.site c.args.count answer (subst (λ o. is_told o answer ≡ true) c.requires.op told) in
    let old = c.in_ok-answer.ensures in (
      (c.in-Err.ensures).err,
      untaken c.args.self.now c.take.new.self c.untake.new.self v.0 old.others.0 old.others.1 (old.undone v.0 (ap Ok v.1)) c.untake.ensures.others.0 c.untake.ensures.others.1 (c.untake.ensures.block v.0 v.1),
    )

pub returns-in_default-feed-clause-ok : goal.returns-in_default-feed-clause-ok
returns-in_default-feed-clause-ok c = λ input h n store.
    let a = c.args.asked in
    let answer = c.in_ok-answer.answer in
    let op = subst (λ k. a.op ≡ Op.New c.args.site k) (sym (to_z-of_z c.ranges.count)) c.requires.op in
    let taken = c.in_ok-answer.ensures.answer input h (entry_of n a answer) store op refl in
    turned_told c.args.m.now input h c.args.guest.now c.feed.new.self c.take.new.self n a answer c.in-Some.reply c.m.inside.code (ap (λ m. m.code) c.m.view_is)
    c.requires.asks (ap takes_no_stack c.requires.op) (taken.answer n (room_in a.stack)) (sym c.reply_to.ensures ∙ c.in-Some.is)
    (c.in_default-feed.ensures).runs (c.in_default-feed.ensures).guest taken.store

pub returns-in_default-clause-ok : goal.returns-in_default-clause-ok
returns-in_default-clause-ok c = λ input h n store.
    let a = c.args.asked in
    let answer = c.in_ok-answer.answer in
    let op = subst (λ k. a.op ≡ Op.New c.args.site k) (sym (to_z-of_z c.ranges.count)) c.requires.op in
    let taken = c.in_ok-answer.ensures.answer input h (entry_of n a answer) store op refl in
    turned_stop c.args.m.now input h c.args.guest.now c.take.new.self n a answer (taken.answer n (room_in a.stack)) (silent_stops answer (sym c.reply_to.ensures ∙ c.in_default.is))
    (subst (λ l. IsLayoutOf c.args.m.now.code l) (sym c.in_ok-answer.ensures.others.1) store.layout)
