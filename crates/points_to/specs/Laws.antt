-- The solution of the system of a code is what may point to what.
use Rattle.std.specs.Prelude.{◌≡◌, ◌↔◌, ℕ, false, IsTrue, length}
use Rattle.tac_ir.specs.declared.code.Code.{Code}
use Rattle.tac_ir.specs.declared.module.Key.{Key}
use Rattle.tac_ir.specs.GoodForm.{GoodForm}
use Rattle.tac_ir.specs.GoodModule.{IsKey}
use Rattle.least_rows.specs.declared.rules.System.{System}
use Rattle.least_rows.specs.Rules.{Table, row_has}
use Rattle.least_rows.specs.Solutions.{IsSolution}
use Rattle.flow_rules.specs.PointsTo.{PointsTo}
use Rattle.points_to.specs.Rows.{row_of_key, row_number, row_count}
use Rattle.points_to.specs.Systems.{IsSystemOf}

-- a table of so many rows without a member
pub record IsEmpty (t : Table) (rows : ℕ) : Type 0 where
  pub long : length t ≡ rows
  pub none : (r k : ℕ) → row_has t r k ≡ false

abbrev pub SolutionsArePoints : Type 0
SolutionsArePoints = (c : Code) (s : System) (start t : Table) → GoodForm c → IsSystemOf c s → IsEmpty start (row_count c) → IsSolution s start t
    → (key : Key) (n : ℕ) → IsKey c key → IsTrue (row_has t (row_number c (row_of_key key)) n) ↔ PointsTo c key n
