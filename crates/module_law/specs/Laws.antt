-- What the rules of a module leave open: nothing.
use Rattle.std.specs.Prelude.{◌≡◌, ℕ, List, IsTrue}
use Rattle.std.specs.List.{list_all}
use Rattle.tac_ir.specs.declared.code.Code.{Code}
use Rattle.tac_ir.specs.declared.module.Key.{Key}
use Rattle.tac_ir.specs.declared.module.PointsRow.{PointsRow}
use Rattle.tac_ir.specs.Module.{Module, is_chain, is_row, key_before}
use Rattle.flow_rules.specs.Tables.{points_by}
use Rattle.flow_rules.specs.IsBuilt.{IsBuilt}

-- rows that are not empty, with rows and members in their order
pub record AreRows (rows : List PointsRow) : Type 0 where
  pub members : IsTrue (list_all (λ r. is_row r.nodes) rows)
  pub order : IsTrue (is_chain (λ a b. key_before a.key b.key) rows)

-- rows of points are those of their table
abbrev pub PointsAreOne : Type 0
PointsAreOne = (xs ys : List PointsRow) → AreRows xs → AreRows ys → ((key : Key) (n : ℕ) → points_by xs key n ≡ points_by ys key n) → xs ≡ ys

-- the module that is built of code is one
abbrev pub BuiltIsOne : Type 0
BuiltIsOne = (c : Code) (m n : Module) → IsBuilt c m → IsBuilt c n → m ≡ n
