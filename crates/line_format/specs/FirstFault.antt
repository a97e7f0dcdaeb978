-- Texts of values: where bytes are the text of no value, the first byte with which none goes on.
use Rattle.std.specs.Prelude.{◌≡◌, ℕ, suc, ◌<◌, ◌≤◌, List, ◌++◌, length, take}

module _ {A : Type 0} (IsText : List ℕ → A → Type 0) where
  -- some text begins so
  abbrev pub Continues : List ℕ → Type 0
  Continues bytes = (rest : List ℕ) × (a : A) × IsText (bytes ++ rest) a

  -- byte n is the first with which no text goes on, or the bytes are n and end too soon
  pub record IsAt (bytes : List ℕ) (n : ℕ) : Type 0 where
    pub place : n ≤ length bytes
    pub before : Continues (take n bytes)
    pub byte : n < length bytes → Continues (take (suc n) bytes) → ⊥
    pub end : length bytes ≤ n → (a : A) → IsText bytes a → ⊥
