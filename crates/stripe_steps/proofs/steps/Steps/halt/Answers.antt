use Rattle.std.proofs.Common.{◌≡◌, ◌+◌, ℕ, arith}
use mathlib.Core.Option.{none}
use Rattle.atomic_table.specs.Table.{Me, step, Allows}
use Rattle.stripe_rule.specs.declared.plan.Terms.{Terms}
use Rattle.stripe_rule.specs.declared.content.Content.{Content}
use Rattle.stripe_rule.specs.declared.view.View.{View}
use Rattle.stripe_rule.specs.Terms.{terms_of}
use Rattle.stripe_rule.specs.Kept.{Kept}
use Rattle.stripe_rule.specs.Steps.{Halts}
use Rattle.stripe_rule.proofs.Moves.{halts, at_plan}
use Rattle.stripe_steps.proofs.steps.Steps.halt.Goals as goal

pub store-requires : goal.store-requires
store-requires c =
    let me : Me Content View = c.args.seat.now.me in
    let id : ℕ = c.args.seat.now.id in
    let p : Terms = terms_of c.args.self.now.plan in
    let key : Terms = terms_of c.args.self.now.table.shared.key in
    let slots : ℕ = c.args.self.now.table.shared.table_id.slots in
    let planned : key ≡ p = c.args.self.now.planned in
    let sized = c.args.self.now.sized in (
      c.requires.table,
      (let a = sized.0 in omega (arith, a)),
      at_plan (λ q n. Allows (Kept q) n id me (p.stripes + 2) (λ _. 1) (λ _. Halts (step n (p.stripes + 2) 1 0 none) me 1)) key p slots planned sized.1
          (halts p id me.0 me.1 c.requires.stop),
    )
