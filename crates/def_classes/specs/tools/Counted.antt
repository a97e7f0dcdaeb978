-- How much a number counts that may not be there.
use Rattle.std.specs.Prelude.{ℕ, Option, Some, None}

-- one for a number, and none without
abbrev pub counted : Option ℕ → ℕ
counted None = 0
counted (Some n) = 1
