use Rattle.std.proofs.Common.{sym, subst}
use Rattle.tac_ir.specs.declared.run.Answer.{Answer}
use Rattle.stripe_rule.specs.declared.content.Content.{Content}
use Rattle.stripe_rule.specs.Terms.{terms_of}
use Rattle.stripe_events.specs.Prepared.{IsPrepared}
use Rattle.stripe_events.proofs.Heaps.{numbers, counted}
use Rattle.stripe_events.proofs.desk.prepare.Goals as goal

pub returns-in-In-clause-ok : goal.returns-in-In-clause-ok
returns-in-In-clause-ok c =
    subst (λ o. IsPrepared (terms_of c.args.plan.now) o (Answer.Value c.coming.result) (Content.Desk c.args.desk.now) (Content.Desk c.args.desk.now)) (sym c.in-In.is)
    (numbers (terms_of c.args.plan.now) c.args.desk.now c.coming.result c.coming.ensures)

pub returns-in-Left-clause-ok : goal.returns-in-Left-clause-ok
returns-in-Left-clause-ok c =
    subst (λ o. IsPrepared (terms_of c.args.plan.now) o (Answer.Value c.left.result) (Content.Desk c.args.desk.now) (Content.Desk c.args.desk.now)) (sym c.in-Left.is)
    (counted (terms_of c.args.plan.now) c.args.desk.now c.left.result c.left.ensures)
