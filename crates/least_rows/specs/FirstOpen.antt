-- The first rule that is open in a table.
use Rattle.std.specs.Prelude.{◌≡◌, ℕ, Option, Some, None, All, take, slice_get}
use Rattle.least_rows.specs.declared.rules.Rule.{Rule}
use Rattle.least_rows.specs.declared.rules.System.{System}
use Rattle.least_rows.specs.Rules.{Table, IsClosed}
use Rattle.least_rows.specs.Solutions.{AreClosed}

abbrev pub IsFirstOpen : System → Table → Option ℕ → Type 0
IsFirstOpen s t None = AreClosed s t
IsFirstOpen s t (Some i) = ((rule : Rule) × (slice_get s.rules i ≡ Some rule) × (IsClosed s t rule → ⊥)) × All (IsClosed s t) (take i s.rules)
