-- The set of a read: the definitions that it may find.
use Rattle.std.specs.Prelude.{◌≡◌, ℕ, ◌⊎◌, true, Some}
use Rattle.dfi_base.specs.declared.numbers.Point.{Point}
use Rattle.tac_ir.specs.declared.code.Code.{Code}
use Rattle.tac_ir.specs.Layout.{instr_at}
use Rattle.tac_ir.specs.Numbers.{new_def, new_read}
use Rattle.tac_ir.specs.Bodies.{Parallel}
use Rattle.flow_rules.specs.Tables.{AccessTable, ReachTable}
use Rattle.flow_rules.specs.Touches.{DefTouches}

-- definition d is made at a point parallel to p; a starting definition is made at none
pub record IsMadeBeside (c : Code) (p : Point) (d : ℕ) : Type 0 where
  pub at : Point
  pub def : new_def (instr_at c at) ≡ Some d
  pub parallel : Parallel c p at

-- Both may touch some leaf, and there the definition reaches the read or is made beside it.
pub record InSet (c : Code) (acc : AccessTable) (reach : ReachTable) (r d : ℕ) : Type 0 where
  pub at : Point
  pub read : new_read (instr_at c at) ≡ Some r
  pub leaf : ℕ
  pub reads : acc at leaf ≡ true
  pub writes : DefTouches c acc d leaf
  pub comes : (reach at d leaf ≡ true) ⊎ IsMadeBeside c at d
