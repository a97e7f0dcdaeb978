-- What temporaries and nodes may point to, as rules of inference, one an instruction: the least table of points.
use Rattle.std.specs.Prelude.{◌≡◌, ℕ, suc, ◌+◌, true, Option, Some, List, slice_get}
use Rattle.dfi_base.specs.declared.numbers.Point.{Point}
use Rattle.tac_ir.specs.declared.code.Code.{Code}
use Rattle.tac_ir.specs.declared.code.Instr.{Instr}
use Rattle.tac_ir.specs.declared.code.Place.{Place}
use Rattle.tac_ir.specs.declared.module.Key.{Key}
use Rattle.tac_ir.specs.Layout.{instr_at}
use Rattle.tac_ir.specs.Nodes.{is_leaf_node, place_node, site_node, part_node}
use Rattle.flow_rules.specs.PointsClosed.{HasShape}

pub data PointsTo (c : Code) : Key → ℕ → Type 0 where
  -- values
  addr : (p : Point) (to : ℕ) (place : Place) → instr_at c p ≡ Instr.Addr to place → PointsTo c (Key.Temp p.fun to) (place_node c p.fun place)
  field : (p : Point) (to x s k n : ℕ) → instr_at c p ≡ Instr.Field to x s k → PointsTo c (Key.Temp p.fun x) n → HasShape c n s → PointsTo c (Key.Temp p.fun to) (n + part_node c s k)
  decay : (p : Point) (to x s n : ℕ) → instr_at c p ≡ Instr.Decay to x s → PointsTo c (Key.Temp p.fun x) n → HasShape c n s → PointsTo c (Key.Temp p.fun to) (suc n)
  index : (p : Point) (to x y words n : ℕ) → instr_at c p ≡ Instr.Index to x y words → PointsTo c (Key.Temp p.fun x) n → PointsTo c (Key.Temp p.fun to) n
  new : (p : Point) (to x site : ℕ) → instr_at c p ≡ Instr.New to x site → PointsTo c (Key.Temp p.fun to) (site_node c site)
  call : (p : Point) (to g d i x n : ℕ) (args : List ℕ) → instr_at c p ≡ Instr.Call to g d args → slice_get args i ≡ Some x → PointsTo c (Key.Temp p.fun x) n → PointsTo c (Key.Temp g i) n
  ret : (p q : Point) (x to d n : ℕ) (r : Option ℕ) (args : List ℕ) → instr_at c p ≡ Instr.Ret x r → instr_at c q ≡ Instr.Call to p.fun d args → PointsTo c (Key.Temp p.fun x) n
      → PointsTo c (Key.Temp q.fun to) n
  -- accesses
  get : (p : Point) (to r n : ℕ) (place : Place) → instr_at c p ≡ Instr.Get to place r → PointsTo c (Key.Node (place_node c p.fun place)) n → PointsTo c (Key.Temp p.fun to) n
  load : (p : Point) (to x r a n : ℕ) → instr_at c p ≡ Instr.Load to x r → PointsTo c (Key.Temp p.fun x) a → is_leaf_node c a ≡ true → PointsTo c (Key.Node a) n → PointsTo c (Key.Temp p.fun to) n
  set : (p : Point) (x d n : ℕ) (place : Place) → instr_at c p ≡ Instr.Set place x d → PointsTo c (Key.Temp p.fun x) n → PointsTo c (Key.Node (place_node c p.fun place)) n
  store : (p : Point) (x y d a n : ℕ) → instr_at c p ≡ Instr.Store x y d → PointsTo c (Key.Temp p.fun x) a → is_leaf_node c a ≡ true → PointsTo c (Key.Temp p.fun y) n → PointsTo c (Key.Node a) n
