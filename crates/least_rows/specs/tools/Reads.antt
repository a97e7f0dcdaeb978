-- The rows that a rule reads.
use Rattle.std.specs.Prelude.{ℕ, List, [], ◌∷◌, Contains, IsTrue, ◌⊎◌}
use Rattle.least_rows.specs.declared.rules.Rule.{Rule}
use Rattle.least_rows.specs.Rules.{Table, row_has}

-- whatever the table is
abbrev pub reads_of : Rule → List ℕ
reads_of (Rule.Has row member) = []
reads_of (Rule.Flow from mask to) = from ∷ []
reads_of (Rule.Shift from mask by to) = from ∷ []
reads_of (Rule.Meet first rest to) = first ∷ rest
reads_of (Rule.Guard test member from to) = test ∷ from ∷ []
reads_of (Rule.Store targets from) = targets ∷ from ∷ []
reads_of (Rule.Load sources to) = sources ∷ []

-- through its sources
abbrev pub LoadsFrom : Table → Rule → ℕ → Type 0
LoadsFrom t (Rule.Has row member) r = ⊥
LoadsFrom t (Rule.Flow from mask to) r = ⊥
LoadsFrom t (Rule.Shift from mask by to) r = ⊥
LoadsFrom t (Rule.Meet first rest to) r = ⊥
LoadsFrom t (Rule.Guard test member from to) r = ⊥
LoadsFrom t (Rule.Store targets from) r = ⊥
LoadsFrom t (Rule.Load sources to) r = IsTrue (row_has t sources r)

abbrev pub Reads : Table → Rule → ℕ → Type 0
Reads t rule r = Contains (reads_of rule) r ⊎ LoadsFrom t rule r
