use Rattle.std.proofs.Common.{◌≡◌, ◌+◌, ℕ, arith}
use mathlib.Core.Option.{none}
use Rattle.atomic_table.specs.Table.{Me, step, Allows}
use Rattle.stripe_rule.specs.declared.plan.Terms.{Terms}
use Rattle.stripe_rule.specs.declared.content.Content.{Content}
use Rattle.stripe_rule.specs.declared.view.View.{View}
use Rattle.stripe_rule.specs.Terms.{terms_of}
use Rattle.stripe_rule.specs.Kept.{Kept}
use Rattle.stripe_rule.specs.Steps.{Hears}
use Rattle.stripe_rule.proofs.Moves.{hears, at_plan}
use Rattle.stripe_steps.proofs.steps.Steps.hear.Goals as goal

pub load-requires : goal.load-requires
load-requires c =
    let me : Me Content View = c.args.seat.now.me in
    let id : ℕ = c.args.seat.now.id in
    let p : Terms = terms_of c.args.self.now.plan in
    let key : Terms = terms_of c.args.self.now.table.shared.key in
    let slots : ℕ = c.args.self.now.table.shared.table_id.slots in
    let planned : key ≡ p = c.args.self.now.planned in
    let sized = c.args.self.now.sized in (
      c.requires.table,
      (let a = sized.0 in omega (arith, a)),
      at_plan (λ q n. Allows (Kept q) n id me (p.stripes + 2) (λ n. n) (Hears (step n (p.stripes + 2) 0 0 none) me)) key p slots planned sized.1
          (hears p id me.0 me.1),
    )
