use Rattle.std.proofs.Common.{◌≡◌, ℕ, [], ◌∷◌, true, List, sym, ap, ◌∙◌, subst, refl, arith}
use Rattle.atomic_table.specs.Table.{Me}
use Rattle.tac_ir.specs.declared.run.Entry.{Entry}
use Rattle.stripe_rule.specs.declared.plan.Terms.{Terms}
use Rattle.stripe_rule.specs.declared.content.Content.{Content}
use Rattle.stripe_rule.specs.declared.view.View.{View}
use Rattle.stripe_rule.specs.Terms.{terms_of}
use Rattle.stripe_rule.specs.Locks.{lock_of}
use Rattle.stripe_rule.specs.Holds.{Holds, IsServed}
use Rattle.stripe_rule.specs.Views.{looked, with_ready}
use Rattle.stripe_rule.specs.Serving.{IsReady, content_after}
use Rattle.stripe_steps.specs.Carried.{front, front_of}
use Rattle.stripe_table.specs.Calls.{entry_by}
use Rattle.stripe_table.proofs.memory.SharedMem.event.Goals as goal

pub draw-ticket-requires-clause-serves : goal.draw-ticket-requires-clause-serves
draw-ticket-requires-clause-serves c =
    let p : Terms = terms_of c.args.self.now.steps.plan in
    let m0 : Me Content View = c.args.seat.now.me in
    let k : ℕ = c.args.lock in
    let held = c.requires.held in
    let y : Content = m0.0.content in
    let next : Content = front c.prepare.new.seat.me in
    let m1 : c.prepare.new.seat.me ≡ (m0.0, (k, next) ∷ []) = c.in-Ok.ensures.slot in
    let b1 : c.prepare.new.seat.me.0.plan.budget ≡ p.budget = ap (λ (m : Me Content View). m.0.plan.budget) m1 ∙ ap (λ (q : Terms). q.budget) c.requires.table.1 in
    let m2 : c.look-seen.new.seat.me ≡ (with_ready (looked m0.0), (k, next) ∷ []) =
    c.look-seen.ensures.looked.0 (let z = c.if-seen-self.false in omega (arith, z, b1)) ∙ ap (λ (m : Me Content View). (with_ready (looked m.0), m.1)) m1 in
    let e : Entry = entry_by c.args.name c.args.point c.args.op c.in-Ok.answer in
    let ready : IsReady p c.args.op c.in-Ok.answer y next = subst (λ x. IsReady p c.args.op c.in-Ok.answer x next) (ap front_of held.0) c.in-Ok.ensures.ok.ready in
    let lock : m0.0.stripe ≡ lock_of p c.args.op = held.2 ∙ held.3 in
    subst (λ (m : Me Content View). (h : List Entry) → (m.0.holds ≡ true → Holds p m.0.stripe h m.0.content)
    → IsServed p h e × (m.0.holds ≡ true → Holds p m.0.stripe (e ∷ h) (content_after p c.args.op (front m)))) (sym m2)
    (λ h on.
    let r = ready h e (subst (λ q. Holds p q h y) lock (on held.1)) refl refl in
    (r.0, λ _. subst (λ q. Holds p q (e ∷ h) (content_after p c.args.op next)) (sym lock) r.1))
