-- The first point of the code at which something does not hold.
use Rattle.std.specs.Prelude.{ℕ, ◌<◌, Option, Some, None, length}
use Rattle.dfi_base.specs.declared.numbers.Point.{Point}
use Rattle.tac_ir.specs.declared.code.Code.{Code}
use Rattle.tac_ir.specs.GoodModule.{IsPoint}
use Rattle.tac_ir.specs.Layout.{lines_of}
use Rattle.flow_rules.specs.PointNumber.{point_at}
use Rattle.flow_rules.specs.FirstOpen.{IsFirstOpen}

-- it holds at the first n indexes of function f
pub record HoldsUpTo (Holds : Point → Type 0) (f n : ℕ) : Type 0 where
  pub each : (at : ℕ) → at < n → Holds (point_at f at)

-- it holds at all points of the first n functions
pub record HoldsBefore (c : Code) (Holds : Point → Type 0) (n : ℕ) : Type 0 where
  pub each : (q : Point) → IsPoint c q → q.fun < n → Holds q

pub record IsOpenAt (c : Code) (Holds : Point → Type 0) (f at : ℕ) : Type 0 where
  pub low : at < length (lines_of c f)
  pub fails : Holds (point_at f at) → ⊥
  pub before : HoldsUpTo Holds f at

abbrev pub IsOpenIn : Code → (Point → Type 0) → ℕ → Option ℕ → Type 0
IsOpenIn c Holds f None = HoldsUpTo Holds f (length (lines_of c f))
IsOpenIn c Holds f (Some at) = IsOpenAt c Holds f at

abbrev pub IsFound : Code → (Point → Type 0) → Option Point → Type 0
IsFound c Holds None = HoldsBefore c Holds (length c.funs)
IsFound c Holds (Some p) = IsFirstOpen c Holds p
