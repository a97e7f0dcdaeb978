-- Each step-th member of a list, from one on.
use Rattle.std.specs.Prelude.{◌≡◌, ℕ, ◌+◌, ◌*◌, ◌<◌, List, length, slice_index_or}

pub record IsPicked {X : Type 0} (xs : List X) (first step : ℕ) (ys : List X) : Type 0 where
  pub within : (k : ℕ) → k < length ys → k * step + first < length xs
  pub all : (k : ℕ) → k * step + first < length xs → k < length ys
  pub each : (k : ℕ) (d : X) → k < length ys → slice_index_or ys k d ≡ slice_index_or xs (k * step + first) d
