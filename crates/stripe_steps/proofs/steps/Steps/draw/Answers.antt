use Rattle.std.proofs.Common.{◌≡◌, ◌+◌, ◌%◌, ◌^◌, ℕ, subst, arith}
use mathlib.Core.Option.{none}
use Rattle.atomic_table.specs.Table.{Me, step, Allows}
use Rattle.tac_ir.specs.declared.run.Entry.{Entry}
use Rattle.stripe_rule.specs.declared.plan.Terms.{Terms}
use Rattle.stripe_rule.specs.declared.content.Content.{Content}
use Rattle.stripe_rule.specs.declared.view.View.{View}
use Rattle.stripe_rule.specs.Terms.{terms_of}
use Rattle.stripe_rule.specs.Kept.{Kept}
use Rattle.stripe_rule.specs.Steps.{Draws, IsOwn, Serves}
use Rattle.stripe_rule.proofs.Moves.{draws, at_plan}
use Rattle.stripe_steps.proofs.steps.Steps.draw.Goals as goal

pub fetch_add-requires : goal.fetch_add-requires
fetch_add-requires g c =
    let me : Me Content View = c.args.seat.now.me in
    let id : ℕ = c.args.seat.now.id in
    let p : Terms = terms_of c.args.self.now.plan in
    let key : Terms = terms_of c.args.self.now.table.shared.key in
    let slots : ℕ = c.args.self.now.table.shared.table_id.slots in
    let planned : key ≡ p = c.args.self.now.planned in
    let sized = c.args.self.now.sized in
    let e : Entry = g.E.Drawn.entry in
    let y : Content = g.E.Drawn.next in (
      c.requires.table,
      (let a = sized.0 in omega (arith, a)),
      at_plan (λ q n. Allows (Kept q) n id me (p.stripes + 1) (λ n. (n + 1) % 2 ^ 64) (Draws e y (step n (p.stripes + 1) 1 0 none) me)) key p slots planned sized.1
          (draws p id me.0 me.1 e y c.args.self.now.limits.2 c.requires.ready.1 c.requires.ready.0 (subst (IsOwn p me.0) c.requires.entry c.requires.own)
          (subst (λ x. Serves p me.0 x y) c.requires.entry c.requires.serves)),
    )
