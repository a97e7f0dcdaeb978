use Rattle.std.proofs.Common.{subst}
use Rattle.std.specs.Slots.{slots_items}
use Rattle.atomic_table.specs.Table.{Final, Seen}
use Rattle.stripe_rule.specs.Terms.{terms_of}
use Rattle.stripe_rule.specs.Kept.{Kept}
use Rattle.stripe_rule.proofs.Ends.{closes}
use Rattle.stripe_steps.proofs.steps.Steps.close.Goals as goal

pub returns : goal.returns
returns c =
    let v = c.args.root.me.0 in
    let words = slots_items c.close_with-closed.result.words in
    let slots = slots_items c.close_with-closed.result.slots in
    let root = c.requires.root in
    closes (terms_of c.args.self.plan) c.args.root.id v words slots root.0 root.1 root.2
    (subst (λ q. Final (Seen (Kept q) c.args.root.id v) words slots) c.args.self.planned c.close_with-closed.ensures.values.2)
