use Rattle.std.proofs.Common.{◌≡◌, ◌∷◌, ℕ, List, sym, ap, ◌∙◌, subst}
use Rattle.std.specs.Prelude.{IfOk}
use Rattle.atomic_table.specs.Table.{rest}
use Rattle.stripe_rule.specs.declared.content.Content.{Content}
use Rattle.stripe_rule.specs.Terms.{terms_of}
use Rattle.stripe_events.specs.Prepared.{IsPrepared}
use Rattle.stripe_steps.specs.Carried.{front, front_of}
use Rattle.stripe_steps.proofs.steps.Steps.prepare.Goals as goal

pub slot_mut-content-requires : goal.slot_mut-content-requires
slot_mut-content-requires c =
    let s = c.requires.slot in
    (c.requires.table, (front c.args.seat.now.me, s.0 ∙ ap (λ (l : List (ℕ × Content)). (c.args.lock, front c.args.seat.now.me) ∷ rest l) (sym s.0)))

pub returns-clause-ok : goal.returns-clause-ok
returns-clause-ok c =
    let is : c.slot_mut-content.result.now ≡ front c.args.seat.now.me = sym (ap front_of c.slot_mut-content.ensures.value) in
    subst (λ y. IfOk c.prepare.result (λ a. IsPrepared (terms_of c.args.self.now.plan) c.args.op a y c.prepare.new.content)) is c.prepare.ensures.ok
