-- A module, as every definition sees it.
use Rattle.std.specs.Prelude.{◌≡◌, ℕ, Bool, true, false, ◌&&◌, nat_lt, nat_eq, List, [], ◌∷◌, length, IsTrue, if◌then◌else◌}
use Rattle.std.specs.List.{list_all}
use Rattle.dfi_base.specs.declared.numbers.Point.{Point}
use Rattle.tac_ir.specs.declared.code.Code.{Code}
use Rattle.tac_ir.specs.declared.module.Size.{Size}
use Rattle.tac_ir.specs.declared.module.Key.{Key}
use Rattle.tac_ir.specs.declared.module.PointsRow.{PointsRow}
use Rattle.tac_ir.specs.declared.module.ReachRow.{ReachRow}

pub record Module : Type 0 where
  pub size : Size
  pub code : Code
  -- the class of each definition, from definition 1 on
  pub classes : List ℕ
  -- the definitions in the set of each read, from read 1 on
  pub sets : List (List ℕ)
  -- whether each read, from read 1 on, goes unchecked
  pub removed : List Bool
  pub points : List PointsRow
  pub reach : List ReachRow

-- each member stands before the next
abbrev pub is_chain : {A : Type 0} → (A → A → Bool) → List A → Bool
is_chain before [] = true
is_chain before (x ∷ []) = true
is_chain before (x ∷ y ∷ rest) = before x y && is_chain before (y ∷ rest)

-- at the first place where they differ, the first pair has the lesser number
abbrev pub pair_before : ℕ → ℕ → ℕ → ℕ → Bool
pair_before a b c d = if nat_lt a c then true else (nat_eq a c && nat_lt b d)

-- temporaries before nodes, temporaries by function and number, nodes by number
abbrev pub key_before : Key → Key → Bool
key_before (Key.Temp f t) (Key.Temp g u) = pair_before f t g u
key_before (Key.Temp f t) (Key.Node n) = true
key_before (Key.Node n) (Key.Temp f t) = false
key_before (Key.Node n) (Key.Node k) = nat_lt n k

abbrev pub point_before : Point → Point → Bool
point_before p q = pair_before p.fun p.at q.fun q.at

abbrev pub has_members : List ℕ → Bool
has_members [] = false
has_members (x ∷ xs) = true

-- a row is not empty, and its members ascend
abbrev pub is_row : List ℕ → Bool
is_row row = has_members row && is_chain nat_lt row

-- what every module keeps: a mark for each read, and members and rows in their order
pub record IsOrdered (sets : List (List ℕ)) (removed : List Bool) (points : List PointsRow) (reach : List ReachRow) : Type 0 where
  pub marks : length removed ≡ length sets
  pub members : IsTrue (list_all (is_chain nat_lt) sets)
  pub points_rows : IsTrue (list_all (λ r. is_row r.nodes) points)
  pub points_order : IsTrue (is_chain (λ a b. key_before a.key b.key) points)
  pub reach_rows : IsTrue (list_all (λ r. is_row r.facts) reach)
  pub reach_order : IsTrue (is_chain (λ a b. point_before a.point b.point) reach)
