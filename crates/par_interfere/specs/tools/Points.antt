-- Lists of points, each at its number.
use Rattle.std.specs.Prelude.{◌≡◌, ℕ, Option, Some, None, List, length, slice_get}
use Rattle.dfi_base.specs.declared.numbers.Point.{Point}
use Rattle.tac_ir.specs.declared.code.Code.{Code}
use Rattle.tac_ir.specs.declared.code.Instr.{Instr}
use Rattle.tac_ir.specs.Counts.{points_in_code}
use Rattle.tac_ir.specs.GoodModule.{IsPoint}
use Rattle.flow_rules.specs.PointNumber.{point_number}

-- a point of the code, and its number
pub record HasNumber (c : Code) (p : Point) (n : ℕ) : Type 0 where
  pub real : IsPoint c p
  pub number : point_number c p ≡ n

abbrev pub AreNumbered : Code → List Point → Type 0
AreNumbered c points = (n : ℕ) (p : Point) → slice_get points n ≡ Some p → HasNumber c p n

-- all points of the code
pub record ArePoints (c : Code) (points : List Point) : Type 0 where
  pub count : length points ≡ points_in_code c
  pub numbered : AreNumbered c points

-- the function that an instruction calls
abbrev pub callee : Instr → Option ℕ
callee (Instr.Call to g def args) = Some g
callee i = None
