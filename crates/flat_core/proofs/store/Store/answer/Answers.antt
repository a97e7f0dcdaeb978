use Rattle.std.proofs.Common.{ap, ◌∙◌, sym, subst}
use Rattle.tac_ir.specs.declared.run.Answer.{Answer}
use Rattle.tac_ir.specs.Answers.{IsAnswer}
use Rattle.flat_core.proofs.Answering.{comes}
use Rattle.flat_core.proofs.store.Store.answer.Goals as goal

pub returns-in-Write : goal.returns-in-Write
returns-in-Write c = λ input h n room plain store.
    subst (λ op. IsAnswer c.args.m.now input h n room op c.can_write.result) (sym c.in-Write.is) (c.can_write.ensures c.args.m.now h store.words)

pub returns-in-In : goal.returns-in-In
returns-in-In c = λ input h n room plain store.
    subst (λ op. IsAnswer c.args.m.now input h n room op (Answer.Value c.coming.result)) (sym c.in-In.is)
    (ap Answer.Value c.coming.ensures ∙ comes c.args.m.now input h c.args.self.now.desk store.desk)
