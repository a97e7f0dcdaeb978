use Rattle.std.proofs.Common.{◌≡◌, ◌∷◌, ◌/◌, ◌∙◌, ap, sym, subst}
use Rattle.tac_ir.specs.Answers.{class_of}
use Rattle.word_table.specs.Stripes.{Stripe, HoldsStripe, with_word}
use Rattle.word_table.proofs.Striped.{write_by}
use Rattle.word_table.proofs.stripe.StripeTable.write.Goals as goal

pub returns-clause-holds : goal.returns-clause-holds
returns-clause-holds c = λ h e holds op answer.
    let t : Stripe = c.args.self.now in
    let is : c.put.new.self ≡ with_word t (class_of c.args.m.now c.args.def.0) (c.args.word / t.stripes) c.args.value =
    c.put.ensures
    ∙ ap (λ k. with_word t k c.place_of-at.result c.args.value) (c.class_of-class.ensures ∙ ap (class_of c.args.m.now) c.from.ensures)
    ∙ ap (λ at. with_word t (class_of c.args.m.now c.args.def.0) at c.args.value) c.place_of-at.ensures.place in
    subst (HoldsStripe c.args.m.now (e ∷ h)) (sym is) (write_by t c.args.m.now e h c.args.def.0 c.args.word c.args.value c.place_of-at.ensures.own c.requires.own holds op answer)
