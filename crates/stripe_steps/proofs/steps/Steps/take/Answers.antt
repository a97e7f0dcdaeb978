use Rattle.std.proofs.Common.{◌≡◌, ◌+◌, eqb, ℕ, subst, arith}
use prog.Atomic.{either}
use mathlib.Core.Option.{none}
use Rattle.atomic_table.specs.Table.{Me, step, Allows}
use Rattle.stripe_rule.specs.declared.plan.Terms.{Terms}
use Rattle.stripe_rule.specs.declared.content.Content.{Content}
use Rattle.stripe_rule.specs.declared.view.View.{View}
use Rattle.stripe_rule.specs.Terms.{terms_of}
use Rattle.stripe_rule.specs.Kept.{Kept}
use Rattle.stripe_rule.specs.Steps.{Takes}
use Rattle.stripe_rule.proofs.Moves.{takes_lock, at_plan}
use Rattle.stripe_steps.proofs.steps.Steps.take.Goals as goal

pub compare_exchange-requires : goal.compare_exchange-requires
compare_exchange-requires c =
    let me : Me Content View = c.args.seat.now.me in
    let id : ℕ = c.args.seat.now.id in
    let p : Terms = terms_of c.args.self.now.plan in
    let key : Terms = terms_of c.args.self.now.table.shared.key in
    let slots : ℕ = c.args.self.now.table.shared.table_id.slots in
    let planned : key ≡ p = c.args.self.now.planned in
    let sized = c.args.self.now.sized in
    let free = c.requires.free in
    let k : ℕ = c.args.lock in
    let n : ℕ = c.args.name in (
      c.requires.table,
      (let a = sized.0 in let b = c.requires.lock in omega (arith, a, b)),
      at_plan (λ q l. Allows (Kept q) l id me k (λ x. either (eqb x 0) n x) (Takes (step l k 0 n none) me)) key p slots planned sized.1
          (subst (λ (m : ℕ). Allows (Kept p) (p.stripes + 1) id me k (λ x. either (eqb x 0) m x) (Takes (step (p.stripes + 1) k 0 m none) me)) free.1
          (takes_lock p id k me.0 me.1 c.requires.lock free.0 (rw free.1 free.2) free.3)),
    )
