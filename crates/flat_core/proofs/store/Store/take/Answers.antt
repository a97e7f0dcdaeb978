use Rattle.std.proofs.Common.{◌≡◌, Ok, Err, subst}
use mir.Facts.{to_z-of_z}
use Rattle.heap_desk.specs.Replies.{AnswersTake, after_take}
use Rattle.flat_core.proofs.Keeping.{block_taken, no_block}
use Rattle.flat_core.proofs.store.Store.take.Goals as goal

pub returns-in-Ok-clause-answer : goal.returns-in-Ok-clause-answer
returns-in-Ok-clause-answer c = λ input h e store op answer.
    block_taken c.args.m.now input h c.args.self.now c.take.new.self e c.args.site c.item_words-words.result c.in-Ok.at c.args.count store
    (c.item_words-words.ensures store.layout)
    (subst (λ k. AnswersTake c.args.self.now.desk k c.item_words-words.result (Ok c.in-Ok.at)) (to_z-of_z c.ranges.count) c.in-Ok.ensures.answer)
    (subst (λ k. c.take.new.self ≡ after_take c.args.self.now.desk k c.item_words-words.result (Ok c.in-Ok.at)) (to_z-of_z c.ranges.count) c.in-Ok.ensures.after)
    op answer

pub returns-in-Err-NoRoom-clause-answer : goal.returns-in-Err-NoRoom-clause-answer
returns-in-Err-NoRoom-clause-answer c = λ input h e store op answer.
    let count = to_z-of_z c.ranges.count in
    let said = subst (λ k. AnswersTake c.args.self.now.desk k c.item_words-words.result (Err c.in-Err-NoRoom.field-0)) count c.in-Err-NoRoom.ensures.answer in
    let after = subst (λ k. c.take.new.self ≡ after_take c.args.self.now.desk k c.item_words-words.result (Err c.in-Err-NoRoom.field-0)) count c.in-Err-NoRoom.ensures.after in
    no_block c.args.m.now input h c.args.self.now c.take.new.self e c.args.site c.item_words-words.result c.args.count store
    (c.item_words-words.ensures store.layout)
    (subst (λ f. AnswersTake c.args.self.now.desk c.args.count c.item_words-words.result (Err f)) c.in-Err-NoRoom.field-0-is said)
    (subst (λ f. c.take.new.self ≡ after_take c.args.self.now.desk c.args.count c.item_words-words.result (Err f)) c.in-Err-NoRoom.field-0-is after)
    op answer
