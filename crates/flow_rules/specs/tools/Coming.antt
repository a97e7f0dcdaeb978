-- That a definition comes to a point or is made beside it, fact by fact.
use Rattle.std.specs.Prelude.{◌≡◌, ℕ, ◌<◌, Bool, true, ◌||◌, Some, List, slice_get}
use Rattle.dfi_base.specs.declared.numbers.Point.{Point}
use Rattle.dfi_base.specs.Bits as bits
use Rattle.tac_ir.specs.declared.code.Code.{Code}
use Rattle.tac_ir.specs.declared.module.Fact.{Fact}
use Rattle.tac_ir.specs.declared.module.PointsRow.{PointsRow}
use Rattle.tac_ir.specs.declared.module.Reach.{Reach}
use Rattle.flow_rules.specs.ReachRows.{row_of}
use Rattle.flow_rules.specs.Touches.{touches}

-- the fact is one of the definition, for a leaf that the point may touch, and it reaches the point or is made beside it
pub record Comes (c : Code) (points : List PointsRow) (r : Reach) (at : Point) (d : ℕ) (beside : Bool) (k : ℕ) (fact : Fact) : Type 0 where
  pub def : fact.def ≡ d
  pub touched : touches c points at fact.leaf ≡ true
  pub near : (beside || bits.has (row_of c r at) k) ≡ true

pub record SomeComes (c : Code) (points : List PointsRow) (r : Reach) (at : Point) (d : ℕ) (beside : Bool) : Type 0 where
  pub number : ℕ
  pub fact : Fact
  pub listed : slice_get r.facts.pairs number ≡ Some fact
  pub comes : Comes c points r at d beside number fact

pub record NoneComes (c : Code) (points : List PointsRow) (r : Reach) (at : Point) (d : ℕ) (beside : Bool) (n : ℕ) : Type 0 where
  pub none : (k : ℕ) (fact : Fact) → k < n → slice_get r.facts.pairs k ≡ Some fact → Comes c points r at d beside k fact → ⊥
