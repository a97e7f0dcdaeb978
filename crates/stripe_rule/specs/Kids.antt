-- The live children of a pass, and the parts of the right to draw that it has. At the start there are 2^57 parts; a pass that is d deep begins
-- with 2^(57 - 4d), and each child gets a sixteenth of that.
use Rattle.std.specs.Prelude.{◌≡◌, ◌⊎◌, ℕ, ◌+◌, ◌-◌, ◌*◌, ◌^◌, ◌<◌, ◌==◌, cond, List, [], ◌∷◌, length}
use Rattle.dfi_base.specs.Names.{depth_of}

abbrev pub ALL : ℕ
ALL = 2 ^ 57

abbrev pub whole_of : ℕ → ℕ
whole_of n = 2 ^ (57 - 4 * depth_of n)

abbrev pub share_of : ℕ → ℕ
share_of n = 2 ^ (53 - 4 * depth_of n)

abbrev pub Has : ℕ → List ℕ → Type 0
Has x [] = ⊥
Has x (y ∷ ys) = (x ≡ y) ⊎ Has x ys

abbrev pub remove : ℕ → List ℕ → List ℕ
remove x [] = []
remove x (y ∷ ys) = cond (x == y) (remove x ys) (y ∷ remove x ys)

-- these are names of branches of n, and they differ
abbrev pub AreKids : ℕ → List ℕ → Type 0
AreKids n [] = Unit {0}
AreKids n (c ∷ kids) = (n * 16 < c) × (c < n * 16 + 16) × ¬ (Has c kids) × AreKids n kids

-- a live pass has what it began with, but for the shares of its live children
pub record IsShared (name parts : ℕ) (kids : List ℕ) : Type 0 where
  pub are : AreKids name kids
  pub shallow : (c : ℕ) → Has c kids → depth_of name < 14
  pub rest : 0 < parts → parts + length kids * share_of name ≡ whole_of name
