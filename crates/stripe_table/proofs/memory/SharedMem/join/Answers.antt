use Rattle.std.proofs.Common.{◌≤◌, ℕ, List, sym, ap, ◌∙◌, subst}
use Rattle.atomic_table.specs.Table.{Me}
use Rattle.guest_log.specs.declared.stamped.Stamped.{Stamped}
use Rattle.stripe_rule.specs.declared.content.Content.{Content}
use Rattle.stripe_rule.specs.declared.view.View.{View}
use Rattle.stripe_rule.specs.tools.Logs.{AllFrom, times}
use Rattle.stripe_rule.proofs.Backward.{merged_is}
use Rattle.stripe_table.proofs.Pushing.{differ_by, above_all}
use Rattle.stripe_table.proofs.Joining.{joined_log}
use Rattle.stripe_table.proofs.memory.SharedMem.join.Goals as goal

pub merge-requires-clause-apart : goal.merge-requires-clause-apart
merge-requires-clause-apart c =
    let a : List Stamped = c.args.pass.now.log.items in
    let b : List Stamped = c.args.child.log.items in
    let is = joined_log c.args.pass.now.seat.me c.args.child.seat.me c.unite.new.seat.me a b c.unite.ensures.both c.args.pass.now.logged c.args.child.logged in
    differ_by a b (subst (λ l. (t : ℕ) → times t l ≤ 1) is c.tell.ensures.told.1)

pub invariant_of-pass-clause-logged : goal.invariant_of-pass-clause-logged
invariant_of-pass-clause-logged c =
    let a : List Stamped = c.args.pass.now.log.items in
    let b : List Stamped = c.args.child.log.items in
    ap (λ (m : Me Content View). m.0.log) c.tell.ensures.told.0
    ∙ joined_log c.args.pass.now.seat.me c.args.child.seat.me c.unite.new.seat.me a b c.unite.ensures.both c.args.pass.now.logged c.args.child.logged
    ∙ merged_is a b c.merge.new.self.items c.merge.ensures.items

pub invariant_of-pass-clause-above : goal.invariant_of-pass-clause-above
invariant_of-pass-clause-above c =
    let a : List Stamped = c.args.pass.now.log.items in
    let b : List Stamped = c.args.child.log.items in
    let told = c.tell.ensures.told in
    let logged = ap (λ (m : Me Content View). m.0.log) told.0
    ∙ joined_log c.args.pass.now.seat.me c.args.child.seat.me c.unite.new.seat.me a b c.unite.ensures.both c.args.pass.now.logged c.args.child.logged
    ∙ merged_is a b c.merge.new.self.items c.merge.ensures.items in
    above_all c.tell.new.seat.me.0.floor c.merge.new.self.items c.tell.new.seat.me.0.log logged (subst (λ (m : Me Content View). AllFrom m.0.floor m.0.log) (sym told.0) told.2)
