-- Functions that are called from some, through any chain of calls.
use Rattle.std.specs.Prelude.{◌≡◌, ◌↔◌, ℕ, suc, ◌<◌, ◌≤◌, ◌⊎◌, Bool, true, false, List, [], ◌∷◌, length}
use Rattle.dfi_base.specs.declared.numbers.Point.{Point}
use Rattle.dfi_base.specs.Bits.{has}
use Rattle.tac_ir.specs.declared.code.Code.{Code}
use Rattle.tac_ir.specs.declared.code.Instr.{Instr}
use Rattle.tac_ir.specs.Edges.{calls_fun}
use Rattle.tac_ir.specs.Layout.{instr_at}
use Rattle.flow_rules.specs.PointNumber.{point_at}

-- from a set, as a row of bits
pub data IsReached (c : Code) (set : List Bool) : ℕ → Type 0 where
  start : (g : ℕ) → has set g ≡ true → IsReached c set g
  call : (p : Point) (g : ℕ) → IsReached c set p.fun → calls_fun g (instr_at c p) ≡ true → IsReached c set g

-- an instruction of function f, between two indexes, calls g
pub record IsCalledIn (c : Code) (f from end g : ℕ) : Type 0 where
  pub at : ℕ
  pub low : from ≤ at
  pub high : at < end
  pub calls : calls_fun g (instr_at c (point_at f at)) ≡ true

-- how many a row lacks
abbrev pub gaps : List Bool → ℕ
gaps [] = 0
gaps (true ∷ row) = gaps row
gaps (false ∷ row) = suc (gaps row)

-- a row that grew, or did not change
pub record IsGrown (old new : List Bool) (changed : Bool) : Type 0 where
  pub long : length new ≡ length old
  pub kept : (k : ℕ) → has old k ≡ true → has new k ≡ true
  pub same : changed ≡ false → new ≡ old
  pub fewer : changed ≡ true → gaps new < gaps old

pub record HasCalls (c : Code) (f from end : ℕ) (old new : List Bool) (changed : Bool) : Type 0 where
  pub grown : IsGrown old new changed
  pub added : (g : ℕ) → IsCalledIn c f from end g → has new g ≡ true
  pub only : (g : ℕ) → has new g ≡ true → (has old g ≡ true) ⊎ IsCalledIn c f from end g

-- what the first n functions of the row call was added, and nothing that is not reached
pub record HasAllCalls (c : Code) (n : ℕ) (old new : List Bool) (changed : Bool) : Type 0 where
  pub grown : IsGrown old new changed
  pub added : changed ≡ false → (f at g : ℕ) → f < n → has old f ≡ true → calls_fun g (instr_at c (point_at f at)) ≡ true → has old g ≡ true
  pub only : (g : ℕ) → has new g ≡ true → IsReached c old g

pub record IsReachedSet (c : Code) (old new : List Bool) : Type 0 where
  pub long : length new ≡ length old
  pub each : (g : ℕ) → (has new g ≡ true) ↔ IsReached c old g

-- the function that an instruction calls is one of n
abbrev pub CallsWithin : ℕ → Instr → Type 0
CallsWithin n i = (g : ℕ) → calls_fun g i ≡ true → g < n

pub record HasCall (i : Instr) (old new : List Bool) (changed : Bool) : Type 0 where
  pub grown : IsGrown old new changed
  pub added : (g : ℕ) → calls_fun g i ≡ true → has new g ≡ true
  pub only : (g : ℕ) → has new g ≡ true → (has old g ≡ true) ⊎ (calls_fun g i ≡ true)

-- a row that grew by what is reached alone
pub record IsGrowing (c : Code) (old now : List Bool) : Type 0 where
  pub long : length now ≡ length old
  pub kept : (k : ℕ) → has old k ≡ true → has now k ≡ true
  pub only : (g : ℕ) → has now g ≡ true → IsReached c old g
