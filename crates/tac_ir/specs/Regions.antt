-- The regions of a function's forks: the instructions of one branch, from its entry to its `end`.
use Rattle.std.specs.Prelude.{ℕ, suc, ◌-◌, ◌≤◌, List, [], ◌∷◌, ◌++◌, Contains}
use Rattle.tac_ir.specs.declared.code.Instr.{Instr}
use Rattle.tac_ir.specs.declared.code.Lined.{Lined}

pub record Region : Type 0 where
  -- the index of its fork
  pub fork : ℕ
  pub entry : ℕ
  pub last : ℕ

-- those of the fork at this index: each goes up to the instruction before the next entry, the last up to that before the join
abbrev pub regions_of : ℕ → ℕ → List ℕ → List Region
regions_of fork join [] = []
regions_of fork join (e ∷ []) = record { fork = fork; entry = e; last = join - 1 } ∷ []
regions_of fork join (e ∷ next ∷ entries) = record { fork = fork; entry = e; last = next - 1 } ∷ regions_of fork join (next ∷ entries)

abbrev pub regions_by : ℕ → Instr → List Region
regions_by at (Instr.Fork join entries) = regions_of at join entries
regions_by at i = []

-- those of all forks among these lines, of which the first stands at this index
abbrev pub regions_from : ℕ → List Lined → List Region
regions_from at [] = []
regions_from at (l ∷ rest) = regions_by at l.instr ++ regions_from (suc at) rest

abbrev pub regions_in : List Lined → List Region
regions_in code = regions_from 0 code

-- the region has the index
pub record IsInside (r : Region) (at : ℕ) : Type 0 where
  pub low : r.entry ≤ at
  pub high : at ≤ r.last

-- of all regions that have the index, this begins last
pub record IsInnermost (code : List Lined) (r : Region) (at : ℕ) : Type 0 where
  pub region : Contains (regions_in code) r
  pub inside : IsInside r at
  pub latest : (other : Region) → Contains (regions_in code) other → IsInside other at → other.entry ≤ r.entry
