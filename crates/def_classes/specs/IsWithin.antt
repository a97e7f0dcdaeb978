-- The numbers from 1 to n.
use Rattle.std.specs.Prelude.{ℕ, ◌≤◌}

abbrev pub IsWithin : ℕ → ℕ → Type 0
IsWithin n d = (1 ≤ d) × (d ≤ n)
