-- Rows that say which points are parallel.
use Rattle.std.specs.Prelude.{◌≡◌, ◌↔◌, Bool, true, List, [], length, All, slice_index_or}
use Rattle.dfi_base.specs.Bits.{has}
use Rattle.dfi_base.specs.declared.numbers.Point.{Point}
use Rattle.tac_ir.specs.declared.code.Code.{Code}
use Rattle.tac_ir.specs.Bodies.{Parallel}
use Rattle.tac_ir.specs.Counts.{points_in_code}
use Rattle.tac_ir.specs.GoodModule.{IsPoint}
use Rattle.flow_rules.specs.PointNumber.{point_number}

-- each row is as long as their number
abbrev pub IsSquare : List (List Bool) → Type 0
IsSquare rows = All (λ row. length row ≡ length rows) rows

-- the value of q in the row of p
abbrev pub meets : List (List Bool) → Code → Point → Point → Bool
meets rows c p q = has (slice_index_or rows (point_number c p) []) (point_number c q)

-- a row for each point of the code, which has the points that are parallel to it
pub record IsMhp (c : Code) (rows : List (List Bool)) : Type 0 where
  pub count : length rows ≡ points_in_code c
  pub meets_parallel : (p q : Point) → IsPoint c p → IsPoint c q → (meets rows c p q ≡ true) ↔ Parallel c p q
