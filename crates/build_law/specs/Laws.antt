-- Tables that are exactly those of code make the module that is built of it.
use Rattle.std.specs.Prelude.{◌≡◌, ◌↔◌, ℕ, ◌-◌, ◌≤◌, true, List, length, slice_index_or}
use Rattle.dfi_base.specs.declared.numbers.Point.{Point}
use Rattle.tac_ir.specs.declared.code.Code.{Code}
use Rattle.tac_ir.specs.declared.module.Key.{Key}
use Rattle.tac_ir.specs.declared.module.PointsRow.{PointsRow}
use Rattle.tac_ir.specs.declared.module.Reach.{Reach}
use Rattle.tac_ir.specs.GoodModule.{GoodModule}
use Rattle.tac_ir.specs.Module.{Module}
use Rattle.tac_ir.specs.Numbers.{defs_in_code}
use Rattle.tac_ir.specs.Tables.{CanRun}
use Rattle.flow_rules.specs.ClassOf.{ClassOf}
use Rattle.flow_rules.specs.HasClasses.{HasClasses}
use Rattle.flow_rules.specs.IsBuilt.{IsBuilt}
use Rattle.flow_rules.specs.PointsTo.{PointsTo}
use Rattle.flow_rules.specs.Reaches.{Reaches}
use Rattle.flow_rules.specs.ReachRows.{reach_rows}
use Rattle.flow_rules.specs.Tables.{points_by}
use Rattle.flow_rules.specs.Touches.{touches}
use Rattle.def_classes.specs.AreSets.{AreSets}
use Rattle.instrument.specs.Instruments.{HasTable, Instruments}
use Rattle.check_elide.specs.Elides.{Elides}

-- the least tables of code, the sets of its reads by them, and the classes of its definitions by these
pub record AreTablesOf (c : Code) (points : List PointsRow) (r : Reach) (sets : List (List ℕ)) (classes : List ℕ) : Type 0 where
  pub points_least : (key : Key) (n : ℕ) → (points_by points key n ≡ true) ↔ PointsTo c key n
  pub reach_least : (p : Point) (d a : ℕ) → (reach_rows c r p d a ≡ true) ↔ Reaches c (touches c points) a p d
  pub sets_all : AreSets c (touches c points) (reach_rows c r) sets
  pub count : length classes ≡ defs_in_code c
  pub classes_all : (d : ℕ) → 1 ≤ d → d ≤ length classes → ClassOf sets d (slice_index_or classes (d - 1) 0)

-- with each read checked, and then exactly those that may go unchecked, they are the built module
abbrev pub BuiltOfTables : Type 0
BuiltOfTables = (c : Code) (points : List PointsRow) (r : Reach) (sets : List (List ℕ)) (classes : List ℕ) (all_checked made : Module)
    → AreTablesOf c points r sets classes → Instruments c points r sets classes all_checked → HasTable c r all_checked → Elides all_checked made → IsBuilt c made

-- a module whose form is good and whose classes are those of its sets can run
abbrev pub ClassedCanRun : Type 0
ClassedCanRun = (m : Module) → GoodModule m → HasClasses m → CanRun m
