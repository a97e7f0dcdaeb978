-- What a sink tells.
use Rattle.std.specs.Prelude.{ℕ, List}

-- the bytes of a sink, the numbers of the writes that are to fail with how many bytes each takes, its room in bytes, and how many writes there were
pub record Held : Type 0 where
  pub bytes : List ℕ
  -- of two pairs with one number the first counts
  pub plan : List (ℕ × ℕ)
  pub room : ℕ
  pub writes : ℕ
