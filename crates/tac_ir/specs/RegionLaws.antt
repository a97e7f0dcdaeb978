-- Laws of the regions of forks, in code of a good form. The number of an index is one more than the entry of its innermost
-- region, 0 where it stands in none (`region_in`).
use Rattle.std.specs.Prelude.{◌≡◌, ℕ, suc, ◌+◌, ◌≤◌, Some, List, slice_get, All, Contains}
use Rattle.tac_ir.specs.declared.code.Code.{Code}
use Rattle.tac_ir.specs.declared.code.Instr.{Instr}
use Rattle.tac_ir.specs.declared.code.Lined.{Lined}
use Rattle.tac_ir.specs.Path.{region_in}
use Rattle.tac_ir.specs.Regions.{Region, regions_in, IsInside}
use Rattle.tac_ir.specs.GoodForm.{targets_of, IsEnd, IsGoodCode}

-- a region that begins within another ends within it
abbrev pub RegionsNest : Type 0
RegionsNest = (c : Code) (f : ℕ) (code : List Lined) → IsGoodCode c f code → (r other : Region) → Contains (regions_in code) r → Contains (regions_in code) other
    → IsInside r other.entry → other.last ≤ r.last

-- indexes with one number stand in the same regions
abbrev pub NumbersTellRegions : Type 0
NumbersTellRegions = (c : Code) (f : ℕ) (code : List Lined) → IsGoodCode c f code → (a b : ℕ) → region_in code a ≡ region_in code b
    → (r : Region) → Contains (regions_in code) r → IsInside r a → IsInside r b

-- The number is kept by the next index, but behind a fork and an `end`;
abbrev pub NextKeepsRegion : Type 0
NextKeepsRegion = (c : Code) (f : ℕ) (code : List Lined) → IsGoodCode c f code → (at : ℕ) (l : Lined) → slice_get code at ≡ Some l
    → ((join : ℕ) (entries : List ℕ) → l.instr ≡ Instr.Fork join entries → ⊥) → (l.instr ≡ Instr.End → ⊥) → region_in code (at + 1) ≡ region_in code at

-- by the targets of jumps and tests;
abbrev pub TargetsKeepRegion : Type 0
TargetsKeepRegion = (c : Code) (f : ℕ) (code : List Lined) → IsGoodCode c f code → (at : ℕ) (l : Lined) → slice_get code at ≡ Some l
    → All (λ t. region_in code t ≡ region_in code at) (targets_of l.instr)

-- and by the join of a fork.
abbrev pub JoinKeepsRegion : Type 0
JoinKeepsRegion = (c : Code) (f : ℕ) (code : List Lined) → IsGoodCode c f code → (at : ℕ) (l : Lined) (join : ℕ) (entries : List ℕ)
    → slice_get code at ≡ Some l → l.instr ≡ Instr.Fork join entries → region_in code join ≡ region_in code at

-- an entry has a number of its own
abbrev pub EntryHasItsOwn : Type 0
EntryHasItsOwn = (c : Code) (f : ℕ) (code : List Lined) → IsGoodCode c f code → (at : ℕ) (l : Lined) (join : ℕ) (entries : List ℕ)
    → slice_get code at ≡ Some l → l.instr ≡ Instr.Fork join entries → All (λ entry. region_in code entry ≡ suc entry) entries

-- the region that an `end` is the last of
pub record Closes (code : List Lined) (at : ℕ) (r : Region) : Type 0 where
  pub region : Contains (regions_in code) r
  pub last : r.last ≡ at
  -- and it is the innermost one there
  pub own : region_in code at ≡ suc r.entry

-- an `end` closes one region
abbrev pub EndClosesOne : Type 0
EndClosesOne = (c : Code) (f : ℕ) (code : List Lined) → IsGoodCode c f code → (at : ℕ) → IsEnd code at
    → (r : Region) × Closes code at r × ((other : Region) → Contains (regions_in code) other → other.last ≡ at → other ≡ r)

-- a function begins in no region
abbrev pub FunctionsBeginOutside : Type 0
FunctionsBeginOutside = (c : Code) (f : ℕ) (code : List Lined) → IsGoodCode c f code → region_in code 0 ≡ 0
