-- A module that may be run with its unchecked reads, one field a rule. Its tables need not be the least, and a read that may go unchecked may be checked.
use Rattle.std.specs.Prelude.{◌≡◌, ℕ, false}
use Rattle.tac_ir.specs.Module.{Module}
use Rattle.tac_ir.specs.Answers.{is_checked}
use Rattle.tac_ir.specs.GoodModule.{GoodModule}
use Rattle.flow_rules.specs.Tables.{points_by, reach_in}
use Rattle.flow_rules.specs.Touches.{touches}
use Rattle.flow_rules.specs.PointsClosed.{PointsClosed}
use Rattle.flow_rules.specs.ReachClosed.{ReachClosed}
use Rattle.flow_rules.specs.HasSets.{HasSets}
use Rattle.flow_rules.specs.HasClasses.{HasClasses}
use Rattle.flow_rules.specs.Removed.{Removed}

pub record Accepted (m : Module) : Type 0 where
  pub form : GoodModule m
  pub points : PointsClosed m.code (touches m.code m.points) (points_by m.points)
  pub reach : (a : ℕ) → ReachClosed m.code (touches m.code m.points) (reach_in m) a
  pub sets : HasSets m
  pub classes : HasClasses m
  pub removed : (r : ℕ) → is_checked m r ≡ false → Removed m r
