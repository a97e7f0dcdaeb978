-- A table of points is closed: at each point it keeps to the rules of values and of accesses.
use Rattle.std.specs.Prelude.{◌≡◌, ℕ, suc, ◌+◌, Bool, true, Some, List, slice_get}
use Rattle.dfi_base.specs.declared.numbers.Point.{Point}
use Rattle.tac_ir.specs.declared.code.Code.{Code}
use Rattle.tac_ir.specs.declared.code.Instr.{Instr}
use Rattle.tac_ir.specs.declared.module.Key.{Key}
use Rattle.tac_ir.specs.Layout.{instr_at}
use Rattle.tac_ir.specs.Nodes.{node_shapes, place_node, site_node, part_node}
use Rattle.flow_rules.specs.Tables.{PointsTable, AccessTable}

abbrev pub HasShape : Code → ℕ → ℕ → Type 0
HasShape c n s = slice_get (node_shapes c) n ≡ Some s

-- all to which one points, the other points to as well
abbrev pub IsWithin : PointsTable → Key → Key → Type 0
IsWithin t from to = (n : ℕ) → t from n ≡ true → t to n ≡ true

-- The rule of an instruction of function f on the values that it hands on. The node of an array is followed by those of its item; a parameter is
-- the temporary of its number; what a function returns goes to each call of it.
abbrev pub ValueRule : Code → PointsTable → ℕ → Instr → Type 0
ValueRule c t f (Instr.Addr to place) = t (Key.Temp f to) (place_node c f place) ≡ true
ValueRule c t f (Instr.Field to x s k) = (n : ℕ) → t (Key.Temp f x) n ≡ true → HasShape c n s → t (Key.Temp f to) (n + part_node c s k) ≡ true
ValueRule c t f (Instr.Decay to x s) = (n : ℕ) → t (Key.Temp f x) n ≡ true → HasShape c n s → t (Key.Temp f to) (suc n) ≡ true
ValueRule c t f (Instr.Index to x y words) = IsWithin t (Key.Temp f x) (Key.Temp f to)
ValueRule c t f (Instr.New to x site) = t (Key.Temp f to) (site_node c site) ≡ true
ValueRule c t f (Instr.Call to g d args) = (i x : ℕ) → slice_get args i ≡ Some x → IsWithin t (Key.Temp f x) (Key.Temp g i)
ValueRule c t f (Instr.Ret x r) = (p : Point) (to d : ℕ) (args : List ℕ) → instr_at c p ≡ Instr.Call to f d args → IsWithin t (Key.Temp f x) (Key.Temp p.fun to)
ValueRule c t f i = Unit {0}

-- The rule of its access, of which acc tells the leaves that it may touch: reads take what the leaves have, writes give it to them.
abbrev pub AccessRule : (ℕ → Bool) → PointsTable → ℕ → Instr → Type 0
AccessRule acc t f (Instr.Get to place r) = (a : ℕ) → acc a ≡ true → IsWithin t (Key.Node a) (Key.Temp f to)
AccessRule acc t f (Instr.Load to x r) = (a : ℕ) → acc a ≡ true → IsWithin t (Key.Node a) (Key.Temp f to)
AccessRule acc t f (Instr.Set place x d) = (a : ℕ) → acc a ≡ true → IsWithin t (Key.Temp f x) (Key.Node a)
AccessRule acc t f (Instr.Store x y d) = (a : ℕ) → acc a ≡ true → IsWithin t (Key.Temp f y) (Key.Node a)
AccessRule acc t f i = Unit {0}

abbrev pub ValuesClosedAt : Code → PointsTable → Point → Type 0
ValuesClosedAt c t p = ValueRule c t p.fun (instr_at c p)

abbrev pub AccessesClosedAt : Code → AccessTable → PointsTable → Point → Type 0
AccessesClosedAt c acc t p = AccessRule (acc p) t p.fun (instr_at c p)

pub record PointsClosedAt (c : Code) (acc : AccessTable) (t : PointsTable) (p : Point) : Type 0 where
  pub values : ValuesClosedAt c t p
  pub accesses : AccessesClosedAt c acc t p

pub record ValuesClosed (c : Code) (t : PointsTable) : Type 0 where
  pub each : (p : Point) → ValuesClosedAt c t p

pub record AccessesClosed (c : Code) (acc : AccessTable) (t : PointsTable) : Type 0 where
  pub each : (p : Point) → AccessesClosedAt c acc t p

pub record PointsClosed (c : Code) (acc : AccessTable) (t : PointsTable) : Type 0 where
  pub values : ValuesClosed c t
  pub accesses : AccessesClosed c acc t
