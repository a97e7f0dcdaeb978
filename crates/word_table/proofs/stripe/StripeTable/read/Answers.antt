use Rattle.std.proofs.Common.{◌∙◌, ◌+◌, ◌*◌, ◌/◌, ap}
use Rattle.tac_ir.specs.Answers.{read_answer}
use Rattle.word_table.specs.Stripes.{Stripe, words_of}
use Rattle.word_table.specs.tools.Deciding.{decided}
use Rattle.word_table.proofs.Striped.{reads_by, word_of}
use Rattle.word_table.proofs.stripe.StripeTable.read.Goals as goal

pub returns : goal.returns
returns c = λ h holds.
    let t : Stripe = c.args.self.now in
    let rows = c.args.rows.now.rows.items in
    c.decide.ensures
    ∙ ap (λ r. decided c.args.m.now (words_of t rows) r c.place_of.result) c.from.ensures
    ∙ ap (decided c.args.m.now (words_of t rows) c.args.read.0) c.place_of.ensures.place
    ∙ reads_by (λ k. k * t.stripes + t.stripe) c.args.m.now h t.values t.classes rows c.args.read.0 (c.args.word / t.stripes) c.requires.rows holds
    ∙ ap (read_answer c.args.m.now h c.args.read.0) (word_of t c.args.word c.requires.own)
