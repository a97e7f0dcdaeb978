use Rattle.std.proofs.Common.{◌≡◌, Ok, Err, subst}
use mir.Facts.{to_z-of_z}
use Rattle.heap_desk.specs.Replies.{AnswersTake, after_take}
use Rattle.stripe_rule.specs.Terms.{terms_of}
use Rattle.stripe_events.proofs.Heaps.{took, full}
use Rattle.stripe_events.proofs.desk.take_block.Goals as goal

pub returns-in-Ok-clause-ok : goal.returns-in-Ok-clause-ok
returns-in-Ok-clause-ok c =
    let count = to_z-of_z c.ranges.count in
    let words = c.item_words-words.result in
    took (terms_of c.args.plan.now) c.args.site words c.in-Ok.at c.args.count c.args.desk.now c.take.new.self c.item_words-words.ensures c.heap_law.ensures.undone
    (subst (λ k. AnswersTake c.args.desk.now k words (Ok c.in-Ok.at)) count c.in-Ok.ensures.answer)
    (subst (λ k. c.take.new.self ≡ after_take c.args.desk.now k words (Ok c.in-Ok.at)) count c.in-Ok.ensures.after)

pub returns-in-Err-NoRoom-clause-ok : goal.returns-in-Err-NoRoom-clause-ok
returns-in-Err-NoRoom-clause-ok c =
    let count = to_z-of_z c.ranges.count in
    let words = c.item_words-words.result in
    let said = subst (λ k. AnswersTake c.args.desk.now k words (Err c.in-Err-NoRoom.field-0)) count c.in-Err-NoRoom.ensures.answer in
    let after = subst (λ k. c.take.new.self ≡ after_take c.args.desk.now k words (Err c.in-Err-NoRoom.field-0)) count c.in-Err-NoRoom.ensures.after in
    full (terms_of c.args.plan.now) c.args.site words c.args.count c.args.desk.now c.take.new.self c.item_words-words.ensures
    (subst (λ f. AnswersTake c.args.desk.now c.args.count words (Err f)) c.in-Err-NoRoom.field-0-is said)
    (subst (λ f. c.take.new.self ≡ after_take c.args.desk.now c.args.count words (Err f)) c.in-Err-NoRoom.field-0-is after)
