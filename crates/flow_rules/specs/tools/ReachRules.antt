-- The rules of reach at a point, fact by fact, on rows of bits.
use Rattle.std.specs.Prelude.{◌≡◌, ℕ, suc, ◌+◌, ◌<◌, ◌≤◌, ◌⊎◌, Bool, true, Option, Some, None, List, All, length, slice_get}
use Rattle.dfi_base.specs.declared.numbers.Point.{Point}
use Rattle.dfi_base.specs.Bits.{has}
use Rattle.tac_ir.specs.declared.code.Code.{Code}
use Rattle.tac_ir.specs.declared.code.Instr.{Instr}
use Rattle.tac_ir.specs.declared.module.Fact.{Fact}
use Rattle.tac_ir.specs.declared.module.Reach.{Reach}
use Rattle.tac_ir.specs.Bodies.{InBody}
use Rattle.tac_ir.specs.Counts.{points_in_code}
use Rattle.tac_ir.specs.Edges.{calls_fun}
use Rattle.tac_ir.specs.Layout.{instr_at}
use Rattle.tac_ir.specs.Numbers.{new_def}
use Rattle.tac_ir.specs.Regions.{Region}
use Rattle.flow_rules.specs.PointNumber.{point_at, entry}
use Rattle.flow_rules.specs.ReachRows.{row_of}
use Rattle.flow_rules.specs.tools.Branches.{last_of, region_by}

-- fact k reaches point p
abbrev pub Bit : Code → Reach → Point → ℕ → Type 0
Bit c r p k = has (row_of c r p) k ≡ true

-- Each is about the first n facts.

pub record StartsHold (c : Code) (r : Reach) (p : Point) (n : ℕ) : Type 0 where
  pub each : (k : ℕ) (fact : Fact) → k < n → slice_get r.facts.pairs k ≡ Some fact → fact.def ≤ length c.globals → Bit c r p k

-- what p makes, and what reaches it and is not killed there, reaches q
pub record FlowsTo (c : Code) (r : Reach) (killed : Option ℕ) (p q : Point) (n : ℕ) : Type 0 where
  pub makes : (k : ℕ) (fact : Fact) → k < n → slice_get r.facts.pairs k ≡ Some fact → new_def (instr_at c p) ≡ Some fact.def → Bit c r q k
  pub keeps : (k : ℕ) (fact : Fact) → k < n → slice_get r.facts.pairs k ≡ Some fact → Bit c r p k → (killed ≡ Some fact.leaf → ⊥) → Bit c r q k

-- those of a return go behind the calls, of which these are in the first functions
pub record ReturnsFlow (c : Code) (r : Reach) (p : Point) (n : ℕ) : Type 0 where
  pub each : (x : Point) → x.fun < n → calls_fun p.fun (instr_at c x) ≡ true → FlowsTo c r None p (point_at x.fun (suc x.at)) (length r.facts.pairs)

pub record CallsFlow (c : Code) (r : Reach) (p : Point) (f n : ℕ) : Type 0 where
  pub each : (at : ℕ) → at < n → calls_fun p.fun (instr_at c (point_at f at)) ≡ true → FlowsTo c r None p (point_at f (suc at)) (length r.facts.pairs)

pub record EntriesFlow (c : Code) (r : Reach) (p : Point) (entries : List ℕ) (n : ℕ) : Type 0 where
  pub each : (i e : ℕ) → i < n → slice_get entries i ≡ Some e → FlowsTo c r None p (point_at p.fun e) (length r.facts.pairs)

-- what was made in the body of a region of function f and reaches its last instruction reaches the join
pub record JoinsOne (c : Code) (r : Reach) (f join : ℕ) (region : Region) (n : ℕ) : Type 0 where
  pub each : (k : ℕ) (fact : Fact) (q : Point) → k < n → slice_get r.facts.pairs k ≡ Some fact → InBody c f region q → new_def (instr_at c q) ≡ Some fact.def
      → Bit c r (point_at f region.last) k → Bit c r (point_at f join) k

-- that of each of the first n branches
pub record JoinsEach (c : Code) (r : Reach) (f fork join : ℕ) (entries : List ℕ) (n : ℕ) : Type 0 where
  pub each : (i : ℕ) → i < n → JoinsOne c r f join (region_by fork join entries i) (length r.facts.pairs)

-- fact k reaches the last instruction of each of the first n branches
pub record ReachesEnds (c : Code) (r : Reach) (f join : ℕ) (entries : List ℕ) (k n : ℕ) : Type 0 where
  pub each : (i : ℕ) → i < n → Bit c r (point_at f (last_of entries join i)) k

-- of the first n facts, what reaches all ends reaches the join
pub record JoinsAll (c : Code) (r : Reach) (f join : ℕ) (entries : List ℕ) (n : ℕ) : Type 0 where
  pub each : (k : ℕ) → k < n → ReachesEnds c r f join entries k (length entries) → Bit c r (point_at f join) k

pub record JoinsHold (c : Code) (r : Reach) (f fork join : ℕ) (entries : List ℕ) : Type 0 where
  pub one : JoinsEach c r f fork join entries (length entries)
  pub all : JoinsAll c r f join entries (length r.facts.pairs)

abbrev pub JoinsBy : Code → Reach → Point → Instr → Type 0
JoinsBy c r p (Instr.Fork join entries) = JoinsHold c r p.fun p.at join entries
JoinsBy c r p i = Unit {0}

-- a row for each point, as long as there are facts
pub record HasRows (c : Code) (r : Reach) : Type 0 where
  pub count : length r.rows ≡ points_in_code c
  pub width : All (λ row. length row ≡ length r.facts.pairs) r.rows

-- whether a fact goes on from an instruction
abbrev pub GoesOn : Instr → Option ℕ → Fact → Bool → Type 0
GoesOn i killed fact reaches = (new_def i ≡ Some fact.def) ⊎ ((reaches ≡ true) × (killed ≡ Some fact.leaf → ⊥))

-- the rules on edges by what the instruction is; only the default may kill
abbrev pub EdgesBy : Code → Reach → Option ℕ → Point → Instr → Type 0
EdgesBy c r killed p (Instr.Jump target) = FlowsTo c r None p (point_at p.fun target) (length r.facts.pairs)
EdgesBy c r killed p (Instr.Test x y n) = FlowsTo c r None p (point_at p.fun y) (length r.facts.pairs) × FlowsTo c r None p (point_at p.fun n) (length r.facts.pairs)
EdgesBy c r killed p (Instr.Call to f d args) = FlowsTo c r None p (entry f) (length r.facts.pairs)
EdgesBy c r killed p (Instr.Ret x (Some read)) = ReturnsFlow c r p (length c.funs)
EdgesBy c r killed p (Instr.Ret x None) = Unit {0}
EdgesBy c r killed p (Instr.Fork join entries) = EntriesFlow c r p entries (length entries)
EdgesBy c r killed p Instr.End = Unit {0}
EdgesBy c r killed p i = FlowsTo c r killed p (point_at p.fun (p.at + 1)) (length r.facts.pairs)
