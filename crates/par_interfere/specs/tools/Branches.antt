-- The branches of the forks of code.
use Rattle.std.specs.Prelude.{◌≡◌, ◌↔◌, ◌<◌, ℕ, Bool, true, not, ◌&&◌, ◌||◌, nat_eq, nat_le, List, All, Contains, length, slice_get, Some}
use Rattle.dfi_base.specs.Bits.{has}
use Rattle.dfi_base.specs.declared.numbers.Point.{Point}
use Rattle.tac_ir.specs.declared.code.Code.{Code}
use Rattle.tac_ir.specs.Layout.{lines_of, instr_at}
use Rattle.tac_ir.specs.Regions.{Region, regions_in, regions_by}
use Rattle.par_interfere.specs.declared.branches.Branch.{Branch}
use Rattle.par_interfere.specs.tools.Calls.{CallsFrom}

abbrev pub region_of : Branch → Region
region_of b = record { fork = b.fork; entry = b.entry; last = b.last }

-- it is that of a region, with the functions that are called from there through any chain of calls
pub record IsBranch (c : Code) (points : List Point) (b : Branch) : Type 0 where
  pub region : Contains (regions_in (lines_of c b.fun)) (region_of b)
  pub long : length b.called ≡ length c.funs
  pub called : (g : ℕ) → (has b.called g ≡ true) ↔ CallsFrom c points (length points) b.fun b.entry b.last g

-- there is one of this region of function f
pub record HasBranch (branches : List Branch) (f : ℕ) (r : Region) : Type 0 where
  pub number : ℕ
  pub branch : Branch
  pub listed : slice_get branches number ≡ Some branch
  pub fun : branch.fun ≡ f
  pub region : region_of branch ≡ r

-- one of each region of the first points of a list, and no others
pub record AreBranches (c : Code) (points : List Point) (n : ℕ) (branches : List Branch) : Type 0 where
  pub each : All (IsBranch c points) branches
  pub all : (k : ℕ) (p : Point) (r : Region) → k < n → slice_get points k ≡ Some p → Contains (regions_by p.at (instr_at c p)) r → HasBranch branches p.fun r

-- whether a point stands between two indexes of function f
abbrev pub is_between : Point → ℕ → ℕ → ℕ → Bool
is_between p f first last = nat_eq p.fun f && (nat_le first p.at && nat_le p.at last)

-- whether the region of a branch has a point, and whether the body of the branch does
abbrev pub is_around : Branch → Point → Bool
is_around b p = is_between p b.fun b.entry b.last

abbrev pub has_point : Branch → Point → Bool
has_point b p = is_around b p || has b.called p.fun

-- whether these are two branches of one fork
abbrev pub are_beside : Branch → Branch → Bool
are_beside a b = nat_eq a.fun b.fun && (nat_eq a.fork b.fork && not (nat_eq a.entry b.entry))
