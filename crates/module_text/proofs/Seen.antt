-- Rows that are gathered one by one, seen as pairs.
use Rattle.std.proofs.Common.{◌≡◌, ℕ, Bool, List, [], ◌∷◌, ◌++◌, length, map, refl, ap, arith}
use Rattle.dfi_base.specs.declared.numbers.Point.{Point}
use Rattle.tac_ir.specs.declared.module.Key.{Key}
use Rattle.tac_ir.specs.declared.module.PointsRow.{PointsRow}
use Rattle.tac_ir.specs.declared.module.ReachRow.{ReachRow}
use Rattle.text_law.specs.ModuleText.{beside}

pub points_pushed : (rows : List PointsRow) (x : PointsRow) → map {B = Key × List ℕ} (λ r. (r.key, r.nodes)) (rows ++ x ∷ []) ≡ map {B = Key × List ℕ} (λ r. (r.key, r.nodes)) rows ++ (x.key, x.nodes) ∷ []
points_pushed [] x = refl
points_pushed (r ∷ rows) x = ap (λ z. (r.key, r.nodes) ∷ z) (points_pushed rows x)

pub reach_pushed : (rows : List ReachRow) (x : ReachRow) → map {B = Point × List ℕ} (λ r. (r.point, r.facts)) (rows ++ x ∷ []) ≡ map {B = Point × List ℕ} (λ r. (r.point, r.facts)) rows ++ (x.point, x.facts) ∷ []
reach_pushed [] x = refl
reach_pushed (r ∷ rows) x = ap (λ z. (r.point, r.facts) ∷ z) (reach_pushed rows x)

pub beside_pushed : (marks : List Bool) (sets : List (List ℕ)) (m : Bool) (s : List ℕ) → length marks ≡ length sets → beside (marks ++ m ∷ []) (sets ++ s ∷ []) ≡ beside marks sets ++ (m, s) ∷ []
beside_pushed [] [] m s e = refl
beside_pushed [] (t ∷ sets) m s e = absurd (omega arith)
beside_pushed (n ∷ marks) [] m s e = absurd (omega arith)
beside_pushed (n ∷ marks) (t ∷ sets) m s e = ap (λ z. (n, t) ∷ z) (beside_pushed marks sets m s (omega arith))
