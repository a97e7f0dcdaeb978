-- The stripes of a memory before its first step.
use Rattle.std.specs.Prelude.{◌≡◌, ℕ, List, length}
use lib.ListN.{get_elem?}
use mathlib.Core.Option.{some}
use Rattle.word_table.specs.Words.{Words}
use Rattle.word_table.specs.Stripes.{Stripe, IsStripeOf}
use Rattle.stripe_rule.specs.declared.content.Content.{Content}

-- these are the first so many of the stripes of a memory's words
abbrev pub AreStripes : Words → ℕ → ℕ → List Content → Type 0
AreStripes words stripes count contents =
    (length contents ≡ count)
    × ((k : ℕ) (y : Content) → get_elem? contents k ≡ some y → (t : Stripe) × (y ≡ Content.Words t) × IsStripeOf words.values words.classes k stripes t)
