-- The solution of rules above a table.
use Rattle.std.specs.Prelude.{◌≡◌, ℕ, All, IsTrue, map, length}
use Rattle.least_rows.specs.declared.rules.System.{System}
use Rattle.least_rows.specs.Rules.{Table, row_has, IsClosed}
use Rattle.least_rows.specs.Derived.{Derived}

-- as many rows, and each as long
abbrev pub IsAlike : Table → Table → Type 0
IsAlike t u = map length t ≡ map length u

-- what one table has, the other has
abbrev pub IsAbove : Table → Table → Type 0
IsAbove t u = (r k : ℕ) → IsTrue (row_has t r k) → IsTrue (row_has u r k)

abbrev pub AreClosed : System → Table → Type 0
AreClosed s t = All (IsClosed s t) s.rules

-- Each rule is closed in the table, which is above the start and has only what is derived.
pub record IsSolution (s : System) (start t : Table) : Type 0 where
  pub alike : IsAlike t start
  pub above : IsAbove start t
  pub closed : AreClosed s t
  pub derived : (r k : ℕ) → IsTrue (row_has t r k) → Derived s start r k

-- It lies within each table above the start in which each rule is closed.
abbrev pub SolutionsAreLeast : Type 0
SolutionsAreLeast =
    (s : System) (start t u : Table) → IsSolution s start t → IsAlike u start → IsAbove start u → AreClosed s u → IsAbove t u
