-- Reads that may go unchecked.
use Rattle.std.specs.Prelude.{◌≡◌, ℕ, ◌<◌, ◌≤◌, true, false, Some, List, slice_get}
use Rattle.dfi_base.specs.declared.numbers.Point.{Point}
use Rattle.tac_ir.specs.declared.code.Instr.{Instr}
use Rattle.tac_ir.specs.declared.code.Lined.{Lined}
use Rattle.tac_ir.specs.declared.code.Place.{Place}
use Rattle.tac_ir.specs.Module.{Module}
use Rattle.tac_ir.specs.Layout.{lines_of, instr_at}
use Rattle.tac_ir.specs.Answers.{has, set_of, is_checked}
use Rattle.tac_ir.specs.Bodies.{Parallel}
use Rattle.tac_ir.specs.GoodForm.{all_targets_of}
use Rattle.tac_thread.specs.tools.Fetched.{instr_in}

-- instructions behind which a block begins
abbrev pub Breaks : Instr → Type 0
Breaks (Instr.Jump t) = Unit {0}
Breaks (Instr.Test x a b) = Unit {0}
Breaks (Instr.Ret x r) = Unit {0}
Breaks (Instr.Fork join entries) = Unit {0}
Breaks Instr.End = Unit {0}
Breaks i = ⊥

-- some instruction names this index as a target
abbrev pub IsNamed : List Lined → ℕ → Type 0
IsNamed code t = (at : ℕ) × ((j : ℕ) × (slice_get (all_targets_of (instr_in code at)) j ≡ Some t))

-- no block begins behind the first of two indexes, up to the second
pub record IsStraight (code : List Lined) (first last : ℕ) : Type 0 where
  pub named : (i : ℕ) → first < i → i ≤ last → IsNamed code i → ⊥
  pub broken : (i : ℕ) → first ≤ i → i < last → Breaks (instr_in code i) → ⊥

-- instructions that may write a word, or after which another thread or function may have
abbrev pub IsLoud : Instr → Type 0
IsLoud (Instr.Set place a d) = Unit {0}
IsLoud (Instr.Store a b d) = Unit {0}
IsLoud (Instr.Call to f def args) = Unit {0}
IsLoud (Instr.Fork join entries) = Unit {0}
IsLoud (Instr.Free a) = Unit {0}
IsLoud i = ⊥

-- an access of the place, and whatever definition it leaves there is in the set of read r
abbrev pub Covers : Module → Place → ℕ → Instr → Type 0
Covers m place r (Instr.Get to other r2) = (other ≡ place) × ((d : ℕ) → has (set_of m r2) d ≡ true → has (set_of m r) d ≡ true)
Covers m place r (Instr.Set other a d) = (other ≡ place) × (has (set_of m r) d ≡ true)
Covers m place r i = ⊥

-- Read r of a place stands at an index of function f, and the access at b covers it: they stand in one block, no instruction between them is
-- loud, and no other thread can be at work where the read stands.
pub record IsCovered (m : Module) (f b at r : ℕ) (place : Place) : Type 0 where
  pub to : ℕ
  pub read : instr_in (lines_of m.code f) at ≡ Instr.Get to place r
  pub cover : Covers m place r (instr_in (lines_of m.code f) b)
  pub straight : IsStraight (lines_of m.code f) b at
  pub quiet : (i : ℕ) → b < i → i < at → IsLoud (instr_in (lines_of m.code f) i) → ⊥
  pub alone : (q : Point) → Parallel m.code (record { fun = f; at = at }) q → ⊥

-- each unchecked read is one of a place that is covered
pub record AreCovered (m : Module) : Type 0 where
  pub gets : (p : Point) (to r : ℕ) (place : Place) → instr_at m.code p ≡ Instr.Get to place r → is_checked m r ≡ false → (b : ℕ) × (b < p.at) × IsCovered m p.fun b p.at r place
  pub loads : (p : Point) (to a r : ℕ) → instr_at m.code p ≡ Instr.Load to a r → is_checked m r ≡ true
  pub rets : (p : Point) (v r : ℕ) → instr_at m.code p ≡ Instr.Ret v (Some r) → is_checked m r ≡ true
