-- Which leaves the access of an instruction may touch, and those that a definition may touch, by a table of accesses.
use Rattle.std.specs.Prelude.{◌≡◌, ℕ, suc, ◌<◌, true, Some, List, ◌++◌, length}
use Rattle.dfi_base.specs.declared.numbers.Point.{Point}
use Rattle.tac_ir.specs.declared.code.Code.{Code}
use Rattle.tac_ir.specs.declared.code.Instr.{Instr}
use Rattle.tac_ir.specs.declared.module.PointsRow.{PointsRow}
use Rattle.tac_ir.specs.Layout.{instr_at}
use Rattle.tac_ir.specs.Numbers.{new_def}
use Rattle.tac_ir.specs.Nodes.{leaves_of_global}
use Rattle.tac_ir.specs.Answers.{has}
use Rattle.tac_ir.specs.Accesses.{leaves_defined, leaves_read}
use Rattle.flow_rules.specs.Tables.{AccessTable}

-- an instruction makes a definition or a read, or neither
abbrev pub leaves_touched : Code → List PointsRow → ℕ → Instr → List ℕ
leaves_touched c points f i = leaves_defined c points f i ++ leaves_read c points f i

-- by rows of points
abbrev pub touches : Code → List PointsRow → AccessTable
touches c points p a = has (leaves_touched c points p.fun (instr_at c p)) a

-- Definition d may touch leaf a: the starting one of a global those of its global, any other what its instruction may touch.
pub data DefTouches (c : Code) (acc : AccessTable) (d a : ℕ) : Type 0 where
  starting : (v : ℕ) → v < length c.globals → d ≡ suc v → has (leaves_of_global c v) a ≡ true → DefTouches c acc d a
  made : (p : Point) → new_def (instr_at c p) ≡ Some d → acc p a ≡ true → DefTouches c acc d a
