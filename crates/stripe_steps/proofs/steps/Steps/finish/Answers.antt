use Rattle.std.proofs.Common.{◌∷◌, ℕ, List, sym, ap, ◌∙◌}
use Rattle.atomic_table.specs.Table.{rest}
use Rattle.stripe_rule.specs.declared.content.Content.{Content}
use Rattle.stripe_steps.specs.Carried.{front}
use Rattle.stripe_steps.proofs.steps.Steps.finish.Goals as goal

pub slot_mut-content-requires : goal.slot_mut-content-requires
slot_mut-content-requires c =
    let s = c.requires.slot in
    (c.requires.table, (front c.args.seat.now.me, s.0 ∙ ap (λ (l : List (ℕ × Content)). (c.args.lock, front c.args.seat.now.me) ∷ rest l) (sym s.0)))
