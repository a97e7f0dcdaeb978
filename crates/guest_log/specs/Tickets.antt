-- Logs by their tickets, the oldest entry first.
use Rattle.std.specs.Prelude.{◌≡◌, ℕ, ◌<◌, List, [], ◌∷◌, All}
use Rattle.guest_log.specs.declared.stamped.Stamped.{Stamped}

-- a log: its entries, and how many can be put behind without memory
pub record Log : Type 0 where
  pub items : List Stamped
  pub spare : ℕ

-- each ticket is less than all behind it
unfoldable pub IsRising : List Stamped → Type 0
IsRising [] = Unit {0}
IsRising (s ∷ log) = All (λ (newer : Stamped). s.ticket < newer.ticket) log × IsRising log

-- no entry of the one has a ticket of the other
abbrev pub Differ : List Stamped → List Stamped → Type 0
Differ a b = All (λ (s : Stamped). All (λ (t : Stamped). s.ticket ≡ t.ticket → ⊥) b) a

-- the first list has the elements of the other two, each in their order
pub data IsShuffle {A : Type 0} : List A → List A → List A → Type 0 where
  none : IsShuffle [] [] []
  first : (x : A) (whole a b : List A) → IsShuffle whole a b → IsShuffle (x ∷ whole) (x ∷ a) b
  second : (x : A) (whole a b : List A) → IsShuffle whole a b → IsShuffle (x ∷ whole) a (x ∷ b)

-- the union of two logs by their tickets
pub record IsUnion (a b whole : List Stamped) : Type 0 where
  pub shuffle : IsShuffle whole a b
  pub rising : IsRising whole
