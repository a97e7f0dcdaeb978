use Rattle.std.proofs.Common.{sym, subst, arith}
use Rattle.atomic_table.specs.Table.{Joins}
use Rattle.stripe_rule.specs.declared.view.View.{View}
use Rattle.stripe_rule.specs.Terms.{terms_of}
use Rattle.stripe_rule.specs.Kept.{Kept}
use Rattle.stripe_rule.specs.Views.{joined, nobody}
use Rattle.stripe_rule.proofs.Tree.{joins}
use Rattle.stripe_steps.proofs.steps.Steps.unite.Goals as goal

pub join_seat-requires : goal.join_seat-requires
join_seat-requires c =
    let v : View = c.args.seat.now.me.0 in
    let w : View = c.args.other.me.0 in
    let live = c.requires.live in
    let free = c.requires.free in (
      c.requires.table.0,
      c.requires.table.1,
      free.0,
      (let a = c.args.self.now.sized.0 in omega (arith, a)),
      subst (λ q. Joins (Kept q) c.args.seat.now.id v c.args.other.id w (joined v w) nobody) (sym c.args.self.now.planned)
          (joins (terms_of c.args.self.now.plan) c.args.seat.now.id v c.args.other.id w live.0 live.1 live.2 c.requires.kid free.1 free.2),
    )
