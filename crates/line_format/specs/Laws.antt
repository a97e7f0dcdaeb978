-- A law of numbers.
use Rattle.std.specs.Prelude.{◌≡◌, ◌<◌, ◌≤◌, ◌^◌, ℕ, List, [], ◌∷◌, ◌++◌, ◌⊎◌}
use Rattle.std.specs.Fmt.{decimal}
use Rattle.line_format.specs.FirstFault.{IsAt}

-- the digits of a number of the range, with no zero in front, and the byte behind them
abbrev pub IsNumber : ℕ → ℕ → ℕ → List ℕ → ℕ → Type 0
IsNumber end low high bytes n = (low ≤ n) × (n ≤ high) × (bytes ≡ decimal n ++ end ∷ [])

-- each list of bytes is the text of a number of the range, or has a first fault
abbrev pub NumbersAreTold : Type 0
NumbersAreTold =
    (end low high : ℕ) → ((48 ≤ end) × (end ≤ 57) → ⊥) → low ≤ high → high < 2 ^ 64 → (bytes : List ℕ)
    → ((n : ℕ) × IsNumber end low high bytes n) ⊎ ((at : ℕ) × IsAt (IsNumber end low high) bytes at)
