-- Rows of points and of reach that are those of given code, and what rows of reach say.
use Rattle.std.specs.Prelude.{◌≡◌, Bool, ◌&&◌, nat_lt, List, [], length, All, IsTrue, slice_index_or}
use Rattle.std.specs.List.{list_all}
use Rattle.dfi_base.specs.declared.numbers.Point.{Point}
use Rattle.dfi_base.specs.Bits.{members}
use Rattle.tac_ir.specs.declared.code.Code.{Code}
use Rattle.tac_ir.specs.declared.module.PointsRow.{PointsRow}
use Rattle.tac_ir.specs.declared.module.Reach.{Reach}
use Rattle.tac_ir.specs.Module.{is_chain, is_row, key_before}
use Rattle.tac_ir.specs.Layout.{lines_of}
use Rattle.tac_ir.specs.Counts.{points_in_code}
use Rattle.tac_ir.specs.GoodModule.{IsGoodPointsRow}
use Rattle.tac_ir.specs.Accesses.{facts_of}
use Rattle.flow_rules.specs.PointNumber.{point_number}
use Rattle.flow_rules.specs.Tables.{ReachTable, has_fact}

-- rows of temporaries and nodes that exist, each with nodes that exist, all in their order
pub record ArePointsOf (c : Code) (rows : List PointsRow) : Type 0 where
  pub good : All (IsGoodPointsRow c) rows
  pub members : IsTrue (list_all (λ r. is_row r.nodes) rows)
  pub order : IsTrue (is_chain (λ a b. key_before a.key b.key) rows)

-- the facts of code and of rows of points, and a row for each point, as long as they are
pub record IsReachOf (c : Code) (points : List PointsRow) (r : Reach) : Type 0 where
  pub facts : r.facts.pairs ≡ facts_of c points
  pub count : length r.rows ≡ points_in_code c
  pub width : All (λ row. length row ≡ length r.facts.pairs) r.rows

abbrev pub exists : Code → Point → Bool
exists c p = nat_lt p.at (length (lines_of c p.fun))

-- which facts reach a point, as a row of bits
abbrev pub row_of : Code → Reach → Point → List Bool
row_of c r p = slice_index_or r.rows (point_number c p) []

-- whether a definition reaches a point for a leaf, by the fact of both in the row of the point
abbrev pub reach_rows : Code → Reach → ReachTable
reach_rows c r p d a = exists c p && has_fact r.facts.pairs (members (row_of c r p)) d a
