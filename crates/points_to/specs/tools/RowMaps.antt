-- The numbers by which rows are found.
use Rattle.std.specs.Prelude.{◌≡◌, ℕ, ◌+◌, ◌<◌, List, length, slice_index}
use Rattle.tac_ir.specs.declared.code.Code.{Code}
use Rattle.tac_ir.specs.Counts.{temps_in_code, nodes_in_code}
use Rattle.points_to.specs.declared.row_map.RowMap.{RowMap}
use Rattle.points_to.specs.Rows.{temps_before}

-- the temporaries before each of the first functions
pub record AreStarts (c : Code) (count : ℕ) (starts : List ℕ) : Type 0 where
  pub long : length starts ≡ count
  pub each : (f : ℕ) → f < count → slice_index starts f ≡ temps_before c f

pub record IsRowMapOf (c : Code) (m : RowMap) : Type 0 where
  pub nodes : m.nodes ≡ nodes_in_code c
  pub temps : m.temps ≡ temps_in_code c
  pub starts : AreStarts c (length c.funs + 1) m.starts
