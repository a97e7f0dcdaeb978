-- The log of a view that took another in.
use Rattle.std.proofs.Common.{◌≡◌, List, reverse, ap, ◌∙◌}
use Rattle.atomic_table.specs.Table.{Me}
use Rattle.guest_log.specs.declared.stamped.Stamped.{Stamped}
use Rattle.stripe_rule.specs.declared.content.Content.{Content}
use Rattle.stripe_rule.specs.declared.view.View.{View}
use Rattle.stripe_rule.specs.Views.{joined}
use Rattle.stripe_rule.specs.tools.Logs.{merge}

pub joined_log : (m w after : Me Content View) (a b : List Stamped) → after ≡ (joined m.0 w.0, m.1) → m.0.log ≡ reverse a → w.0.log ≡ reverse b → after.0.log ≡ merge (reverse a) (reverse b)
joined_log m w after a b both mine theirs = ap (λ (x : Me Content View). x.0.log) both ∙ ap (λ l. merge l w.0.log) mine ∙ ap (merge (reverse a)) theirs
