use Rattle.std.proofs.Common.{ap, ◌∙◌, subst}
use Rattle.tac_ir.specs.Answers.{IsAnswer}
use Rattle.heap_desk.specs.Laws.{changes_desk}
use Rattle.flat_core.proofs.Keeping.{is_write, after_write, after_free, after_in, after_other, changes_nothing}
use Rattle.flat_core.proofs.store.Store.keep.Goals as goal

pub returns-in-Write : goal.returns-in-Write
returns-in-Write c = λ input h e n room plain store is answer.
    let op = is ∙ c.in-Write.is in
    after_write c.args.m.now input h c.args.self.now c.write.new.self e (ap changes_desk op) store
    (c.write.ensures h e store.words op (subst (λ o. IsAnswer c.args.m.now input h n room o e.answer) c.in-Write.is answer))

pub returns-in-Free : goal.returns-in-Free
returns-in-Free c = λ input h e n room plain store is answer.
    after_free c.args.m.now input h c.args.self.now c.give.new.self e n room c.in-Free.word store (is ∙ c.in-Free.is)
    (subst (λ o. IsAnswer c.args.m.now input h n room o e.answer) c.in-Free.is answer) c.give.ensures.after

pub returns-in-In : goal.returns-in-In
returns-in-In c = λ input h e n room plain store is answer.
    after_in c.args.m.now input h c.args.self.now c.next_int.new.self e n room store (is ∙ c.in-In.is)
    (subst (λ o. IsAnswer c.args.m.now input h n room o e.answer) c.in-In.is answer) c.next_int.ensures.after

pub returns-in_default : goal.returns-in_default
returns-in_default c = λ input h e n room plain store is answer.
    let nothing = changes_nothing c.args.op plain c.in_default.not-Write c.in_default.not-Free c.in_default.not-In in
    after_other c.args.m.now input h c.args.self.now e (ap is_write is ∙ nothing.words) (ap changes_desk is ∙ nothing.desk) store
