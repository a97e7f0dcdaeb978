-- A pass that holds a lock.
use Rattle.std.specs.Prelude.{◌≡◌, ◌<◌, ◌+◌, ℕ, true, List, [], ◌∷◌}
use Rattle.atomic_table.specs.Table.{Me}
use Rattle.stripe_rule.specs.declared.content.Content.{Content}
use Rattle.stripe_rule.specs.declared.view.View.{View}
use Rattle.stripe_rule.specs.Views.{nothing}

-- it has what lies under lock k, as its view says
abbrev pub Carries : Me Content View → ℕ → Type 0
Carries m k = (m.1 ≡ (k, m.0.content) ∷ []) × (m.0.holds ≡ true) × (m.0.stripe ≡ k) × (k < m.0.plan.stripes + 1)

-- what it took last
abbrev pub front_of : List (ℕ × Content) → Content
front_of [] = nothing
front_of (x ∷ l) = x.1

abbrev pub front : Me Content View → Content
front m = front_of m.1
