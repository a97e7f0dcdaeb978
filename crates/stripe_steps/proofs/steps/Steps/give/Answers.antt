use Rattle.std.proofs.Common.{◌≡◌, ◌+◌, ℕ, sym, subst, refl, arith}
use mathlib.Core.Option.{none}
use Rattle.atomic_table.specs.Table.{Me, step, Allows}
use Rattle.stripe_rule.specs.declared.plan.Terms.{Terms}
use Rattle.stripe_rule.specs.declared.content.Content.{Content}
use Rattle.stripe_rule.specs.declared.view.View.{View}
use Rattle.stripe_rule.specs.Terms.{terms_of}
use Rattle.stripe_rule.specs.Kept.{Kept}
use Rattle.stripe_rule.specs.Steps.{Gives}
use Rattle.stripe_rule.proofs.Moves.{gives_back, at_plan}
use Rattle.stripe_steps.proofs.steps.Steps.give.Goals as goal

pub store-requires : goal.store-requires
store-requires c =
    let me : Me Content View = c.args.seat.now.me in
    let id : ℕ = c.args.seat.now.id in
    let p : Terms = terms_of c.args.self.now.plan in
    let key : Terms = terms_of c.args.self.now.table.shared.key in
    let slots : ℕ = c.args.self.now.table.shared.table_id.slots in
    let planned : key ≡ p = c.args.self.now.planned in
    let sized = c.args.self.now.sized in
    let k : ℕ = c.args.lock in
    let held = c.requires.held in (
      c.requires.table,
      (let a = sized.0 in let b = held.2 in omega (arith, a, b)),
      at_plan (λ q n. Allows (Kept q) n id me k (λ _. 0) (λ _. Gives (step n k 0 0 none) me 0)) key p slots planned sized.1
          (subst (λ l. Allows (Kept p) (p.stripes + 1) id (me.0, l) k (λ _. 0) (λ _. Gives (step (p.stripes + 1) k 0 0 none) (me.0, l) 0)) (sym c.requires.slot)
          (gives_back p id k me.0 me.0.content held.2 held.0 held.1 refl)),
    )
