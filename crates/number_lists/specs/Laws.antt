-- Bytes are a list of numbers, or are refused at one place.
use Rattle.std.specs.Prelude.{◌≡◌, ℕ, List, Option, None}
use Rattle.number_lists.specs.Lists.{list_of, IsRefusedAt}

-- bytes that are refused are refused at no other place, and are no list
abbrev pub HasOneAnswer : {A : Type 0} → (List ℕ → Option A) → Type 0
HasOneAnswer number = (bytes : List ℕ) (at : ℕ) → IsRefusedAt number bytes at
    → ((other : ℕ) → IsRefusedAt number bytes other → at ≡ other) × (list_of number bytes ≡ None)
