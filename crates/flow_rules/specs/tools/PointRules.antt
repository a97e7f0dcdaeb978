-- The rules of points in parts: those that name what is to be in a row, and those that go through a pointer's nodes.
use Rattle.std.specs.Prelude.{◌≡◌, ℕ, suc, ◌+◌, ◌<◌, true, Option, Some, None, List, length, slice_get}
use Rattle.dfi_base.specs.declared.numbers.Point.{Point}
use Rattle.tac_ir.specs.declared.code.Code.{Code}
use Rattle.tac_ir.specs.declared.code.Instr.{Instr}
use Rattle.tac_ir.specs.declared.module.Key.{Key}
use Rattle.tac_ir.specs.declared.module.PointsRow.{PointsRow}
use Rattle.tac_ir.specs.Accesses.{nodes_for}
use Rattle.tac_ir.specs.Answers.{has}
use Rattle.tac_ir.specs.Layout.{instr_at}
use Rattle.tac_ir.specs.Nodes.{is_leaf_node, place_node, site_node, part_node}
use Rattle.flow_rules.specs.PointNumber.{point_at}
use Rattle.flow_rules.specs.PointsClosed.{HasShape, IsWithin}
use Rattle.flow_rules.specs.Tables.{PointsTable, points_by}

-- the first n arguments are in the parameters
pub record ArgsHold (t : PointsTable) (f g : ℕ) (args : List ℕ) (n : ℕ) : Type 0 where
  pub each : (i x : ℕ) → i < n → slice_get args i ≡ Some x → IsWithin t (Key.Temp f x) (Key.Temp g i)

-- where the instruction, of function f, is a call of g, it takes what g returns
abbrev pub ReturnHolds : PointsTable → ℕ → ℕ → Key → Instr → Type 0
ReturnHolds t f g from i = (to d : ℕ) (args : List ℕ) → i ≡ Instr.Call to g d args → IsWithin t from (Key.Temp f to)

pub record CallsHold (c : Code) (t : PointsTable) (f g : ℕ) (from : Key) (n : ℕ) : Type 0 where
  pub each : (at : ℕ) → at < n → ReturnHolds t f g from (instr_at c (point_at f at))

pub record ReturnsHold (c : Code) (t : PointsTable) (g : ℕ) (from : Key) (n : ℕ) : Type 0 where
  pub each : (p : Point) → p.fun < n → ReturnHolds t p.fun g from (instr_at c p)

abbrev pub Direct : Code → PointsTable → ℕ → Instr → Type 0
Direct c t f (Instr.Addr to place) = t (Key.Temp f to) (place_node c f place) ≡ true
Direct c t f (Instr.Index to x y words) = IsWithin t (Key.Temp f x) (Key.Temp f to)
Direct c t f (Instr.New to x site) = t (Key.Temp f to) (site_node c site) ≡ true
Direct c t f (Instr.Call to g d args) = ArgsHold t f g args (length args)
Direct c t f (Instr.Ret x r) = ReturnsHold c t f (Key.Temp f x) (length c.funs)
Direct c t f (Instr.Get to place r) = IsWithin t (Key.Node (place_node c f place)) (Key.Temp f to)
Direct c t f (Instr.Set place x d) = IsWithin t (Key.Temp f x) (Key.Node (place_node c f place))
Direct c t f i = Unit {0}

abbrev pub pointer_of : Instr → Option ℕ
pointer_of (Instr.Field to x s k) = Some x
pointer_of (Instr.Decay to x s) = Some x
pointer_of (Instr.Load to x r) = Some x
pointer_of (Instr.Store x y d) = Some x
pointer_of i = None

-- what it asks of each node to which its pointer may point
abbrev pub Through : Code → PointsTable → ℕ → Instr → ℕ → Type 0
Through c t f (Instr.Field to x s k) n = HasShape c n s → t (Key.Temp f to) (n + part_node c s k) ≡ true
Through c t f (Instr.Decay to x s) n = HasShape c n s → t (Key.Temp f to) (suc n) ≡ true
Through c t f (Instr.Load to x r) n = is_leaf_node c n ≡ true → IsWithin t (Key.Node n) (Key.Temp f to)
Through c t f (Instr.Store x y d) n = is_leaf_node c n ≡ true → IsWithin t (Key.Temp f y) (Key.Node n)
Through c t f i n = Unit {0}

pub record ThroughAll (c : Code) (rows : List PointsRow) (f : ℕ) (i : Instr) : Type 0 where
  pub each : (x n : ℕ) → pointer_of i ≡ Some x → has (nodes_for rows (Key.Temp f x)) n ≡ true → Through c (points_by rows) f i n
