-- The regions of the forks that are well made, and what instructions keep to them. (Forks that are not well made have no region.)
use Rattle.std.specs.Prelude.{◌≡◌, ℕ, ◌<◌, ◌≤◌, Some, List, length, slice_get, All, Contains}
use Rattle.tac_ir.specs.declared.code.Instr.{Instr}
use Rattle.tac_ir.specs.declared.code.Lined.{Lined}
use Rattle.tac_ir.specs.Regions.{Region, IsInside, regions_of}
use Rattle.tac_ir.specs.GoodForm.{IsGoodFork, IsEnd, IsRet, targets_of, all_targets_of}

pub record IsRegion (code : List Lined) (r : Region) : Type 0 where
  pub join : ℕ
  pub entries : List ℕ
  pub fork : Lined
  pub at : slice_get code r.fork ≡ Some fork
  pub is : fork.instr ≡ Instr.Fork join entries
  pub good : IsGoodFork code r.fork join entries
  pub within : join < length code
  pub branch : Contains (regions_of r.fork join entries) r

-- of all regions that have the index, this begins last
pub record IsInnermost (code : List Lined) (r : Region) (at : ℕ) : Type 0 where
  pub region : IsRegion code r
  pub inside : IsInside r at
  pub latest : (other : Region) → IsRegion code other → IsInside other at → other.entry ≤ r.entry

-- one region ends here, and no other
pub record EndsOne (code : List Lined) (at : ℕ) : Type 0 where
  pub region : Region
  pub is : IsRegion code region
  pub last : region.last ≡ at
  pub only : (other : Region) → IsRegion code other → other.last ≡ at → other ≡ region

-- what the instruction at an index keeps to
pub record KeepsToRegions (code : List Lined) (at : ℕ) (i : Instr) : Type 0 where
  -- an `end` is that of one region
  pub ends : IsEnd code at → EndsOne code at
  -- jumps and tests stay in their innermost region
  pub stays : (r : Region) → IsInnermost code r at → All (IsInside r) (targets_of i)
  -- no index within a region is named from outside, but for its entry by its own fork
  pub closed : (r : Region) → IsRegion code r → (IsInside r at → ⊥) → All (λ t. IsInside r t → (t ≡ r.entry) × (at ≡ r.fork)) (all_targets_of i)
  -- no region has a return
  pub no_return : (r : Region) → IsRegion code r → IsInside r at → IsRet i → ⊥
