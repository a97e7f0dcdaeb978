-- Where a module breaks a rule.
use Rattle.std.specs.Prelude.{◌≡◌, ◌↔◌, ℕ, suc, ◌<◌, false, true, length}
use Rattle.dfi_base.specs.declared.numbers.Point.{Point}
use Rattle.tac_ir.specs.Module.{Module}
use Rattle.tac_ir.specs.Answers.{has, set_of, class_of, is_checked}
use Rattle.tac_ir.specs.GoodModule.{IsPoint}
use Rattle.tac_ir.specs.Tables.{IsNumberOf}
use Rattle.flow_rules.specs.Tables.{points_by, reach_in}
use Rattle.flow_rules.specs.Touches.{touches}
use Rattle.flow_rules.specs.PointsClosed.{PointsClosedAt}
use Rattle.flow_rules.specs.ReachClosed.{ReachClosedAt}
use Rattle.flow_rules.specs.InSet.{InSet}
use Rattle.flow_rules.specs.ClassOf.{ClassOf}
use Rattle.flow_rules.specs.Removed.{Removed}
use Rattle.flow_rules.specs.declared.rule.Rule.{Rule}
use Rattle.dfi_checker.specs.TextPlace.{TextPlace, line_of, instruction, class, set}
use Rattle.dfi_checker.specs.BreaksForm.{BreaksForm}

-- Tables are not closed at an instruction. A rule of reach along an edge is that of the instruction from which the edge goes, that of a join is
-- the fork's, and that of starting definitions is that of main's first instruction.
pub data Breaks (m : Module) : Rule → TextPlace → Type 0 where
  form : (place : TextPlace) → BreaksForm m place → Breaks m Rule.Form place
  points : (p : Point) → IsPoint m.code p → (PointsClosedAt m.code (touches m.code m.points) (points_by m.points) p → ⊥) → Breaks m Rule.Points (instruction p)
  reach : (p : Point) → IsPoint m.code p → (((a : ℕ) → ReachClosedAt m.code (touches m.code m.points) (reach_in m) a p) → ⊥) → Breaks m Rule.Reach (instruction p)
  -- the set of a read is not that of the tables
  sets : (r d : ℕ) → r < length m.sets → ((has (set_of m (suc r)) d ≡ true) ↔ InSet m.code (touches m.code m.points) (reach_in m) (suc r) d → ⊥) → Breaks m Rule.Sets (set (suc r))
  -- the class of a definition is not that of the sets
  classes : (d : ℕ) → IsNumberOf m d → (ClassOf m.sets d (class_of m d) → ⊥) → Breaks m Rule.Classes (class d)
  -- a read goes unchecked and may not
  removed : (r : ℕ) → is_checked m r ≡ false → (Removed m r → ⊥) → Breaks m Rule.Removed (set r)

-- it is broken at a place of this line
pub record IsBrokenAt (m : Module) (rule : Rule) (line : ℕ) : Type 0 where
  pub place : TextPlace
  pub broken : Breaks m rule place
  pub line_is : line ≡ line_of m place
