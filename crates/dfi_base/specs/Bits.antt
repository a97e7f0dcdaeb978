-- Rows of bits, as lists of truth values.
use Rattle.std.specs.Prelude.{◌≡◌, ℕ, suc, ◌<◌, ◌≤◌, Bool, true, false, ◌&&◌, ◌||◌, Option, Some, None, List, [], ◌∷◌, IsTrue, slice_index_or}

-- whether the row has this place
abbrev pub has : List Bool → ℕ → Bool
has row k = slice_index_or row k false

-- what a row has, another has
abbrev pub IsWithin : List Bool → List Bool → Type 0
IsWithin row other = (k : ℕ) → IsTrue (has row k) → IsTrue (has other k)

-- two rows of one length, place by place
abbrev pub by_places : (Bool → Bool → Bool) → List Bool → List Bool → List Bool
by_places f [] others = []
by_places f (x ∷ row) [] = []
by_places f (x ∷ row) (y ∷ others) = f x y ∷ by_places f row others

-- what either has
abbrev pub joined : List Bool → List Bool → List Bool
joined row other = by_places (λ x y. x || y) row other

-- what both have
abbrev pub met : List Bool → List Bool → List Bool
met row other = by_places (λ x y. x && y) row other

-- the least number from this one on that passes, if there is one
abbrev pub IsNext : (ℕ → Bool) → ℕ → Option ℕ → Type 0
IsNext test from None = (k : ℕ) → from ≤ k → test k ≡ false
IsNext test from (Some m) = (from ≤ m) × (test m ≡ true) × ((k : ℕ) → from ≤ k → k < m → test k ≡ false)

-- the places that a row has, ascending, where it begins at this place
abbrev pub members_from : ℕ → List Bool → List ℕ
members_from at [] = []
members_from at (true ∷ row) = at ∷ members_from (suc at) row
members_from at (false ∷ row) = members_from (suc at) row

abbrev pub members : List Bool → List ℕ
members row = members_from 0 row
