use Rattle.std.proofs.Common.{true, false, sym, ◌∙◌}
use Rattle.stripe_rule.specs.Terms.{terms_of}
use Rattle.stripe_events.proofs.Heaps.{gives}
use Rattle.stripe_events.proofs.desk.can_free.Goals as goal

pub returns-then-can_give : goal.returns-then-can_give
returns-then-can_give c = gives (terms_of c.args.plan.now) c.args.word c.args.desk.now true (sym c.if-can_give.true ∙ c.can_give.ensures)

pub returns-else-can_give : goal.returns-else-can_give
returns-else-can_give c = gives (terms_of c.args.plan.now) c.args.word c.args.desk.now false (sym c.if-can_give.false ∙ c.can_give.ensures)
