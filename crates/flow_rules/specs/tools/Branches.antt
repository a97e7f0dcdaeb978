-- The branches of a fork by their indexes, and what stands in their bodies.
use Rattle.std.specs.Prelude.{◌≡◌, ◌↔◌, ℕ, suc, ◌-◌, ◌<◌, ◌⊎◌, true, IsTrue, nat_lt, Bool, Some, List, [], ◌∷◌, ◌++◌, All, length, slice_index}
use Rattle.dfi_base.specs.declared.numbers.Point.{Point}
use Rattle.dfi_base.specs.Bits.{has}
use Rattle.tac_ir.specs.declared.code.Code.{Code}
use Rattle.tac_ir.specs.Bodies.{InBody}
use Rattle.tac_ir.specs.Layout.{instr_at, lines_of}
use Rattle.tac_ir.specs.Module.{is_chain}
use Rattle.tac_ir.specs.Numbers.{new_def}
use Rattle.tac_ir.specs.Regions.{Region, IsInside}

-- the index before what follows branch i: the next entry, or the join
abbrev pub last_of : List ℕ → ℕ → ℕ → ℕ
last_of entries join i = slice_index (entries ++ join ∷ []) (suc i) - 1

abbrev pub region_by : ℕ → ℕ → List ℕ → ℕ → Region
region_by fork join entries i = record { fork = fork; entry = slice_index entries i; last = last_of entries join i }

-- entries and a join that exist in function f, in their order
pub record AreBranches (c : Code) (f join : ℕ) (entries : List ℕ) : Type 0 where
  pub exist : All (λ e. e < length (lines_of c f)) entries
  pub joins : join < length (lines_of c f)
  pub ascends : IsTrue (is_chain nat_lt (entries ++ join ∷ []))

-- the functions of the row are those that are called from a region of function f, through any chain of calls
pub record IsBodySet (c : Code) (f : ℕ) (region : Region) (set : List Bool) : Type 0 where
  pub long : length set ≡ 256
  pub each : (q : Point) → InBody c f region q ↔ (((q.fun ≡ f) × IsInside region q.at) ⊎ (has set q.fun ≡ true))

-- a definition is made in the body of the region
pub record IsMadeWithin (c : Code) (f : ℕ) (region : Region) (d : ℕ) : Type 0 where
  pub at : Point
  pub def : new_def (instr_at c at) ≡ Some d
  pub body : InBody c f region at
