-- The first rule that is open, and the first point at which it is.
use Rattle.std.specs.Prelude.{◌≡◌, ℕ, true, Result, Ok, Err, List}
use Rattle.dfi_base.specs.declared.numbers.Point.{Point}
use Rattle.tac_ir.specs.declared.code.Code.{Code}
use Rattle.tac_ir.specs.declared.module.PointsRow.{PointsRow}
use Rattle.tac_ir.specs.Module.{point_before}
use Rattle.tac_ir.specs.GoodModule.{IsPoint}
use Rattle.flow_rules.specs.declared.rule.Rule.{Rule}
use Rattle.flow_rules.specs.declared.rule.Broken.{Broken}
use Rattle.flow_rules.specs.Tables.{ReachTable, points_by}
use Rattle.flow_rules.specs.Touches.{touches}
use Rattle.flow_rules.specs.PointsClosed.{PointsClosed, PointsClosedAt}
use Rattle.flow_rules.specs.ReachClosed.{ReachClosed, ReachClosedAt}

-- of the points of the code, this is the first at which something does not hold
pub record IsFirstOpen (c : Code) (Holds : Point → Type 0) (p : Point) : Type 0 where
  pub point : IsPoint c p
  pub fails : Holds p → ⊥
  pub before : (q : Point) → IsPoint c q → point_before q p ≡ true → Holds q

-- rows of points with a table of reach, for all leaves
pub record AreTablesClosed (c : Code) (rows : List PointsRow) (table : ReachTable) : Type 0 where
  pub points : PointsClosed c (touches c rows) (points_by rows)
  pub reach : (a : ℕ) → ReachClosed c (touches c rows) table a

-- Rules of points come before those of reach.
abbrev pub IsBroken : Code → List PointsRow → ReachTable → Rule → Point → Type 0
IsBroken c rows table Rule.Points p = IsFirstOpen c (PointsClosedAt c (touches c rows) (points_by rows)) p
IsBroken c rows table Rule.Reach p =
    PointsClosed c (touches c rows) (points_by rows) × IsFirstOpen c (λ q. (a : ℕ) → ReachClosedAt c (touches c rows) table a q) p
IsBroken c rows table rule p = ⊥

-- what is told of tables: that no rule is open, or the first that is
abbrev pub IsTold : Code → List PointsRow → ReachTable → Result Unit Broken → Type 0
IsTold c rows table (Ok u) = AreTablesClosed c rows table
IsTold c rows table (Err broken) = IsBroken c rows table broken.rule broken.point
