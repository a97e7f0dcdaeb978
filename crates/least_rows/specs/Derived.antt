-- What follows from a table by rules, with one case for each kind of rule.
use Rattle.std.specs.Prelude.{ℕ, ◌+◌, ◌<◌, Option, List, ◌∷◌, Contains, IsTrue, length}
use Rattle.least_rows.specs.declared.rules.Rule.{Rule}
use Rattle.least_rows.specs.declared.rules.System.{System}
use Rattle.least_rows.specs.Rules.{Table, row_has, Passes}

-- that row r has k
pub data Derived (s : System) (start : Table) : ℕ → ℕ → Type 0 where
  given : (r k : ℕ) → IsTrue (row_has start r k) → Derived s start r k
  owned : (r k : ℕ) → Contains s.rules (Rule.Has r k) → Derived s start r k
  flows : (from r k : ℕ) (mask : Option ℕ) → Contains s.rules (Rule.Flow from mask r) → Derived s start from k → Passes s.masks mask k → Derived s start r k
  shifts : (from r mask by n : ℕ) → Contains s.rules (Rule.Shift from mask by r) → n + by < s.width → Derived s start from n → IsTrue (row_has s.masks mask n)
      → Derived s start r (n + by)
  meets : (first r k : ℕ) (rest : List ℕ) → Contains s.rules (Rule.Meet first rest r)
      → ((from : ℕ) → Contains (first ∷ rest) from → Derived s start from k) → Derived s start r k
  guards : (test member from r k : ℕ) → Contains s.rules (Rule.Guard test member from r) → Derived s start test member → Derived s start from k
      → Derived s start r k
  stores : (targets from r k : ℕ) → Contains s.rules (Rule.Store targets from) → r < length start → Derived s start targets r → Derived s start from k
      → Derived s start r k
  loads : (sources from r k : ℕ) → Contains s.rules (Rule.Load sources r) → Derived s start sources from → Derived s start from k → Derived s start r k
