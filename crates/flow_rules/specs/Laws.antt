-- Closed tables and the rules of inference.
use Rattle.std.specs.Prelude.{◌≡◌, ◌↔◌, ℕ, true, List}
use Rattle.dfi_base.specs.declared.numbers.Point.{Point}
use Rattle.tac_ir.specs.declared.code.Code.{Code}
use Rattle.tac_ir.specs.declared.module.Key.{Key}
use Rattle.tac_ir.specs.declared.module.PointsRow.{PointsRow}
use Rattle.tac_ir.specs.Module.{Module}
use Rattle.tac_ir.specs.Accesses.{facts_of}
use Rattle.tac_ir.specs.GoodForm.{GoodForm}
use Rattle.flow_rules.specs.Tables.{AccessTable, ReachTable, points_by, has_pair}
use Rattle.flow_rules.specs.Touches.{touches, DefTouches}
use Rattle.flow_rules.specs.PointsClosed.{PointsClosed}
use Rattle.flow_rules.specs.PointsTo.{PointsTo}
use Rattle.flow_rules.specs.ReachClosed.{ReachClosed}
use Rattle.flow_rules.specs.Reaches.{Reaches}
use Rattle.flow_rules.specs.IsBuilt.{IsBuilt}
use Rattle.flow_rules.specs.Accepted.{Accepted}

-- rows of points that are closed under the accesses that they give
abbrev pub AreClosed : Code → List PointsRow → Type 0
AreClosed c rows = PointsClosed c (touches c rows) (points_by rows)

abbrev pub ClosedPointsHaveAll : Type 0
ClosedPointsHaveAll = (c : Code) (rows : List PointsRow) → AreClosed c rows → (key : Key) (n : ℕ) → PointsTo c key n → points_by rows key n ≡ true

abbrev pub PointsAreLeast : Type 0
PointsAreLeast = (c : Code) (rows more : List PointsRow) → ((key : Key) (n : ℕ) → points_by rows key n ≡ true → PointsTo c key n) → AreClosed c more
    → (key : Key) (n : ℕ) → points_by rows key n ≡ true → points_by more key n ≡ true

abbrev pub ClosedReachHasAll : Type 0
ClosedReachHasAll = (c : Code) (acc : AccessTable) (reach : ReachTable) (a : ℕ) → ReachClosed c acc reach a → (p : Point) (d : ℕ) → Reaches c acc a p d → reach p d a ≡ true

abbrev pub ReachIsLeast : Type 0
ReachIsLeast = (c : Code) (acc : AccessTable) (reach more : ReachTable) (a : ℕ) → ((p : Point) (d : ℕ) → reach p d a ≡ true → Reaches c acc a p d) → ReachClosed c acc more a
    → (p : Point) (d : ℕ) → reach p d a ≡ true → more p d a ≡ true

-- what is built is accepted
abbrev pub BuiltIsAccepted : Type 0
BuiltIsAccepted = (c : Code) (m : Module) → IsBuilt c m → Accepted m

-- the facts of code are the leaves that its definitions may touch
abbrev pub FactsAreTouched : Type 0
FactsAreTouched = (c : Code) (points : List PointsRow) (d a : ℕ) → (has_pair (facts_of c points) d a ≡ true) ↔ DefTouches c (touches c points) d a

-- what reaches a point is a fact
abbrev pub WhatReachesIsAFact : Type 0
WhatReachesIsAFact = (c : Code) (points : List PointsRow) (a : ℕ) (p : Point) (d : ℕ) → GoodForm c → Reaches c (touches c points) a p d → has_pair (facts_of c points) d a ≡ true
