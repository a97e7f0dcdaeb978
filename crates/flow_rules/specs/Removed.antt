-- Reads that may go unchecked.
use Rattle.std.specs.Prelude.{◌≡◌, ℕ, ◌<◌, ◌≤◌, Bool, true, false, List}
use Rattle.std.specs.List.{list_any}
use Rattle.dfi_base.specs.declared.numbers.Point.{Point}
use Rattle.tac_ir.specs.declared.code.Code.{Code}
use Rattle.tac_ir.specs.declared.code.Instr.{Instr}
use Rattle.tac_ir.specs.declared.code.Place.{Place}
use Rattle.tac_ir.specs.declared.code.Lined.{Lined}
use Rattle.tac_ir.specs.Module.{Module}
use Rattle.tac_ir.specs.Layout.{lines_of, instr_at}
use Rattle.tac_ir.specs.Answers.{has, set_of}
use Rattle.tac_ir.specs.Bodies.{Parallel}
use Rattle.tac_ir.specs.GoodForm.{all_targets_of}
use Rattle.flow_rules.specs.PointNumber.{point_at}

-- instructions behind which a block begins
abbrev pub breaks : Instr → Bool
breaks (Instr.Jump t) = true
breaks (Instr.Test x a b) = true
breaks (Instr.Ret x r) = true
breaks (Instr.Fork join entries) = true
breaks Instr.End = true
breaks i = false

-- some instruction names this index as a target
abbrev pub is_named : List Lined → ℕ → Bool
is_named code t = list_any (λ l. has (all_targets_of l.instr) t) code

-- no block begins behind the first of two indexes, up to the second
pub record IsOneBlock (c : Code) (f first last : ℕ) : Type 0 where
  pub named : (i : ℕ) → first < i → i ≤ last → is_named (lines_of c f) i ≡ false
  pub broken : (i : ℕ) → first ≤ i → i < last → breaks (instr_at c (point_at f i)) ≡ false

-- instructions that write a word or give a block back, or behind which another thread or function may have
abbrev pub is_loud : Instr → Bool
is_loud (Instr.Set place x d) = true
is_loud (Instr.Store x y d) = true
is_loud (Instr.Call to g d args) = true
is_loud (Instr.Fork join entries) = true
is_loud (Instr.Free x) = true
is_loud i = false

-- an access of the place, and whatever definition it leaves there is in the set of read r
abbrev pub Covers : Module → Place → ℕ → Instr → Type 0
Covers m place r (Instr.Get to other s) = (other ≡ place) × ((d : ℕ) → has (set_of m s) d ≡ true → has (set_of m r) d ≡ true)
Covers m place r (Instr.Set other x d) = (other ≡ place) × (has (set_of m r) d ≡ true)
Covers m place r i = ⊥

-- Some access before index `last` of function f covers read r of a place there: they stand in one block, and nothing between them is loud.
pub record IsCovered (m : Module) (f last r : ℕ) (place : Place) : Type 0 where
  pub first : ℕ
  pub earlier : first < last
  pub covers : Covers m place r (instr_at m.code (point_at f first))
  pub block : IsOneBlock m.code f first last
  pub quiet : (i : ℕ) → first < i → i < last → is_loud (instr_at m.code (point_at f i)) ≡ false

-- Read r of a place is covered, and where it stands no other thread can be at work.
pub record Removed (m : Module) (r : ℕ) : Type 0 where
  pub at : Point
  pub to : ℕ
  pub place : Place
  pub read : instr_at m.code at ≡ Instr.Get to place r
  pub alone : (q : Point) → Parallel m.code at q → ⊥
  pub covered : IsCovered m at.fun at.at r place
