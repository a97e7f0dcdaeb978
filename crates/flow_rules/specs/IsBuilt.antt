-- The module that is built of code.
use Rattle.std.specs.Prelude.{◌≡◌, ◌↔◌, ℕ, true, false}
use Rattle.dfi_base.specs.declared.numbers.Point.{Point}
use Rattle.tac_ir.specs.declared.code.Code.{Code}
use Rattle.tac_ir.specs.declared.module.Key.{Key}
use Rattle.tac_ir.specs.declared.module.Size.{Size}
use Rattle.tac_ir.specs.Module.{Module}
use Rattle.tac_ir.specs.GoodModule.{GoodModule}
use Rattle.tac_ir.specs.Answers.{is_checked}
use Rattle.flow_rules.specs.Tables.{points_by, reach_in}
use Rattle.flow_rules.specs.Touches.{touches}
use Rattle.flow_rules.specs.PointsTo.{PointsTo}
use Rattle.flow_rules.specs.Reaches.{Reaches}
use Rattle.flow_rules.specs.HasSets.{HasSets}
use Rattle.flow_rules.specs.HasClasses.{HasClasses}
use Rattle.flow_rules.specs.Removed.{Removed}

-- its tables are the least, and exactly the reads that may go unchecked do
pub record IsBuilt (c : Code) (m : Module) : Type 0 where
  pub code : m.code ≡ c
  -- its rows are those of this code, and within the limit on facts
  pub form : GoodModule m
  pub size : m.size ≡ Size.Small
  pub points : (key : Key) (n : ℕ) → (points_by m.points key n ≡ true) ↔ PointsTo m.code key n
  pub reach : (p : Point) (d a : ℕ) → (reach_in m p d a ≡ true) ↔ Reaches m.code (touches m.code m.points) a p d
  pub sets : HasSets m
  pub classes : HasClasses m
  pub removed : (r : ℕ) → (is_checked m r ≡ false) ↔ Removed m r
