-- The module of code with its tables, in which each read is checked.
use Rattle.std.specs.Prelude.{◌≡◌, ℕ, ◌<◌, false, List, length, nat_lt, replicate, All, IsTrue}
use Rattle.std.specs.List.{list_all}
use Rattle.dfi_base.specs.declared.numbers.Point.{Point}
use Rattle.dfi_base.specs.Bits.{members}
use Rattle.tac_ir.specs.declared.code.Code.{Code}
use Rattle.tac_ir.specs.declared.module.PointsRow.{PointsRow}
use Rattle.tac_ir.specs.declared.module.Reach.{Reach}
use Rattle.tac_ir.specs.declared.module.ReachRow.{ReachRow}
use Rattle.tac_ir.specs.declared.module.Size.{Size}
use Rattle.tac_ir.specs.Module.{Module, is_chain}
use Rattle.tac_ir.specs.GoodModule.{IsPoint}
use Rattle.tac_ir.specs.Numbers.{reads_made}
use Rattle.flow_rules.specs.ReachRows.{reach_rows, row_of}
use Rattle.flow_rules.specs.Tables.{facts_at, reach_in}

-- one set for each read, its members ascending
pub record AreSetsOf (c : Code) (sets : List (List ℕ)) : Type 0 where
  pub count : length sets ≡ length (reads_made c)
  pub members : IsTrue (list_all (is_chain nat_lt) sets)

-- a row of a point of the code, with facts that exist
pub record IsRowOf (c : Code) (r : Reach) (row : ReachRow) : Type 0 where
  pub point : IsPoint c row.point
  pub facts : All (λ fact. fact < length r.facts.pairs) row.facts

-- it has these tables, with the rows of reach as lists of facts, for the small memory
pub record Instruments (c : Code) (points : List PointsRow) (r : Reach) (sets : List (List ℕ)) (classes : List ℕ) (m : Module) : Type 0 where
  pub size : m.size ≡ Size.Small
  pub code : m.code ≡ c
  pub classes_kept : m.classes ≡ classes
  pub sets_kept : m.sets ≡ sets
  pub checked : m.removed ≡ replicate (length sets) false
  pub points_kept : m.points ≡ points
  -- the facts that reach a point are those of its row, and no other point has a row
  pub reach : (p : Point) → IsPoint c p → facts_at m.reach p ≡ members (row_of c r p)
  pub exist : All (IsRowOf c r) m.reach

-- its table of reach is that of the rows of bits
abbrev pub HasTable : Code → Reach → Module → Type 0
HasTable c r m = (p : Point) (d a : ℕ) → reach_in m p d a ≡ reach_rows c r p d a
