-- Kinds of threads that are told by functions.
use Rattle.std.specs.Prelude.{◌≡◌, ℕ, Option, Some, List}
use Rattle.dfi_base.specs.Lives.{Kind}

-- what a life does next: it wants something, has come to its end, or waits for good
pub data Does (W : Type 0) : Type 0 where
  wants : W → Does W
  ends : Does W
  waits : Does W

-- what lives do, by how they began and their own entries
pub record Program (E S W : Type 0) : Type 0 where
  pub name_of : E → ℕ
  pub branches_of : E → ℕ
  pub root : S
  pub branch : S → List E → ℕ → Option S
  pub does : S → List E → Does W

abbrev pub kind_of : {E S W : Type 0} → Program E S W → Kind E S W
kind_of p = record {
  name_of = p.name_of;
  branches_of = p.branches_of;
  root = p.root;
  Branch = λ s own n branch. p.branch s own n ≡ Some branch;
  Wants = λ s own w. p.does s own ≡ wants w;
  Stops = λ s own. p.does s own ≡ ends;
}
