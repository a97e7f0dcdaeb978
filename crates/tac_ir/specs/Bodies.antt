-- The bodies of the branches of forks, and points that two branches of one fork may run at once.
use Rattle.std.specs.Prelude.{◌≡◌, ℕ, true, Contains}
use Rattle.dfi_base.specs.declared.numbers.Point.{Point}
use Rattle.tac_ir.specs.declared.code.Code.{Code}
use Rattle.tac_ir.specs.Layout.{lines_of, instr_at}
use Rattle.tac_ir.specs.Edges.{calls_fun}
use Rattle.tac_ir.specs.Regions.{Region, regions_in, IsInside}

-- the points of a region of function f, and all points of the functions that are called from there, through any chain of calls
pub data InBody (c : Code) (f : ℕ) (r : Region) : Point → Type 0 where
  inside : (p : Point) → p.fun ≡ f → IsInside r p.at → InBody c f r p
  called : (q p : Point) → InBody c f r q → calls_fun p.fun (instr_at c q) ≡ true → InBody c f r p

-- they are in the bodies of two branches of one fork
pub record Parallel (c : Code) (p q : Point) : Type 0 where
  pub fun : ℕ
  pub left : Region
  pub right : Region
  pub left_region : Contains (regions_in (lines_of c fun)) left
  pub right_region : Contains (regions_in (lines_of c fun)) right
  pub one_fork : left.fork ≡ right.fork
  pub apart : left.entry ≡ right.entry → ⊥
  pub left_body : InBody c fun left p
  pub right_body : InBody c fun right q
