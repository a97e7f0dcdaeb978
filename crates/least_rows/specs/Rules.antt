-- What a rule asks for in a table of rows, and where it is closed.
use Rattle.std.specs.Prelude.{◌≡◌, ℕ, ◌+◌, ◌<◌, ◌^◌, Bool, Option, Some, None, List, [], ◌∷◌, All, Contains, IsTrue, length, slice_index_or}
use Rattle.dfi_base.specs.Bits.{has}
use Rattle.least_rows.specs.declared.rules.Rule.{Rule}
use Rattle.least_rows.specs.declared.rules.System.{System}

abbrev pub Table : Type 0
Table = List (List Bool)

-- the row of this number; one that the table lacks is empty
abbrev pub row_of : Table → ℕ → List Bool
row_of t r = slice_index_or t r []

-- whether row r has k
abbrev pub row_has : Table → ℕ → ℕ → Bool
row_has t r k = has (row_of t r) k

-- a mask, where there is one, lets k pass
abbrev pub Passes : Table → Option ℕ → ℕ → Type 0
Passes masks None k = Unit {0}
Passes masks (Some mask) k = IsTrue (row_has masks mask k)

-- what a row among these sources has
abbrev pub IsLoaded : Table → ℕ → ℕ → Type 0
IsLoaded t sources k = (from : ℕ) × IsTrue (row_has t sources from) × IsTrue (row_has t from k)

-- k is a member of a row, moved up by a number, under a mask
abbrev pub IsMoved : Table → Table → ℕ → ℕ → ℕ → ℕ → Type 0
IsMoved t masks from mask by k = (n : ℕ) × (k ≡ n + by) × IsTrue (row_has t from n) × IsTrue (row_has masks mask n)

-- in a table a rule asks that row r has k
abbrev pub Asks : System → Table → Rule → ℕ → ℕ → Type 0
Asks s t (Rule.Has row member) r k = (r ≡ row) × (k ≡ member)
Asks s t (Rule.Flow from mask to) r k = (r ≡ to) × IsTrue (row_has t from k) × Passes s.masks mask k
Asks s t (Rule.Shift from mask by to) r k = (r ≡ to) × (k < s.width) × IsMoved t s.masks from mask by k
Asks s t (Rule.Meet first rest to) r k = (r ≡ to) × ((from : ℕ) → Contains (first ∷ rest) from → IsTrue (row_has t from k))
Asks s t (Rule.Guard test member from to) r k = (r ≡ to) × IsTrue (row_has t test member) × IsTrue (row_has t from k)
Asks s t (Rule.Store targets from) r k = (r < length t) × IsTrue (row_has t targets r) × IsTrue (row_has t from k)
Asks s t (Rule.Load sources to) r k = (r ≡ to) × IsLoaded t sources k

-- a rule asks for nothing more
abbrev pub IsClosed : System → Table → Rule → Type 0
IsClosed s t rule = (r k : ℕ) → Asks s t rule r k → IsTrue (row_has t r k)

-- the numbers in a rule exist, where there are so many places, masks and rows
abbrev pub IsFittingRule : ℕ → ℕ → ℕ → Rule → Type 0
IsFittingRule width masks rows (Rule.Has row member) = (row < rows) × (member < width)
IsFittingRule width masks rows (Rule.Flow from mask to) = (from < rows) × (to < rows) × ((m : ℕ) → mask ≡ Some m → m < masks)
IsFittingRule width masks rows (Rule.Shift from mask by to) = (from < rows) × (to < rows) × (mask < masks)
IsFittingRule width masks rows (Rule.Meet first rest to) = (first < rows) × (to < rows) × All (λ from. from < rows) rest
IsFittingRule width masks rows (Rule.Guard test member from to) = (test < rows) × (member < width) × (from < rows) × (to < rows)
IsFittingRule width masks rows (Rule.Store targets from) = (targets < rows) × (from < rows)
IsFittingRule width masks rows (Rule.Load sources to) = (sources < rows) × (to < rows)

-- the rules are about tables such as this one
pub record IsFitting (s : System) (t : Table) : Type 0 where
  pub rows : All (λ row. length row ≡ s.width) t
  pub masks : All (λ mask. length mask ≡ s.width) s.masks
  pub rules : All (IsFittingRule s.width (length s.masks) (length t)) s.rules
  pub few_rules : length s.rules < 2 ^ 32
  pub few_rows : length t < 2 ^ 32
