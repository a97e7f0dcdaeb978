use Rattle.std.proofs.Common.{sym, subst, arith}
use Rattle.atomic_table.specs.Table.{Splits}
use Rattle.stripe_rule.specs.declared.plan.Terms.{Terms}
use Rattle.stripe_rule.specs.declared.view.View.{View}
use Rattle.stripe_rule.specs.Terms.{terms_of}
use Rattle.stripe_rule.specs.Kept.{Kept}
use Rattle.stripe_rule.specs.Views.{parent, child}
use Rattle.stripe_rule.proofs.Tree.{splits}
use Rattle.stripe_steps.proofs.steps.Steps.cut.Goals as goal

pub split_seat-requires : goal.split_seat-requires
split_seat-requires g c = (
  c.requires.table,
  (let a = c.args.self.now.sized.0 in omega (arith, a)),
  (let v : View = c.args.seat.now.me.0 in
      let f = c.requires.fresh in
      let live = c.requires.live in
      let p : Terms = terms_of c.args.self.now.plan in
      subst (λ q. Splits (Kept q) c.args.seat.now.id v (parent g.C.Named.name v) (child g.C.Named.name v)) (sym c.args.self.now.planned)
      (subst (λ n. Splits (Kept p) c.args.seat.now.id v (parent n v) (child n v)) c.requires.name
      (splits p c.args.seat.now.id v c.args.name live.0 live.1 live.2 f.0 f.1 f.2))),
)
