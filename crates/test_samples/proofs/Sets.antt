-- The rows of a sample stand in order.
use Rattle.std.proofs.Common.{◌≡◌, ℕ, Bool, true, false, List, [], ◌∷◌, length, map, refl, ◌∙◌, sym, subst}
use Rattle.std.specs.Prelude.{nat_lt, nat_eq, ◌&&◌, if◌then◌else◌, replicate}
use Rattle.std.specs.List.{list_all}
use Rattle.std.proofs.lemmas.List.{length-map, length-replicate}
use Rattle.tac_ir.specs.declared.module.PointsRow.{PointsRow}
use Rattle.tac_ir.specs.declared.module.ReachRow.{ReachRow}
use Rattle.tac_ir.specs.Module.{is_chain, IsOrdered}
use Rattle.test_samples.specs.Rows.{set_of}

both : (a b : Bool) → a ≡ true → b ≡ true → (a && b) ≡ true
both true b first second = second
both false b first second = cc

one_ordered : (row : ℕ × ℕ) → is_chain nat_lt (set_of row) ≡ true
one_ordered row = by (nat_eq row.1 0) (nat_lt row.0 row.1) refl
  where
    by : (none t : Bool) → nat_lt row.0 row.1 ≡ t
        → is_chain nat_lt (if none then [] else (if t then row.0 ∷ row.1 ∷ [] else row.0 ∷ [])) ≡ true
    by true t is = refl
    by false true is = both _ _ is refl
    by false false is = refl

sets_ordered : (rows : List (ℕ × ℕ)) → list_all (is_chain nat_lt) (map set_of rows) ≡ true
sets_ordered [] = refl
sets_ordered (row ∷ rows) = both _ _ (one_ordered row) (sets_ordered rows)

pub is_ordered : (rows : List (ℕ × ℕ)) (sets : List (List ℕ)) (removed : List Bool) (points : List PointsRow) (reach : List ReachRow)
    → sets ≡ map set_of rows → removed ≡ replicate (length rows) false → points ≡ [] → reach ≡ [] → IsOrdered sets removed points reach
is_ordered rows sets removed points reach is marked none empty =
    subst (λ s. IsOrdered s removed points reach) (sym is)
    (subst (λ r. IsOrdered (map set_of rows) r points reach) (sym marked)
    (subst (λ p. IsOrdered (map set_of rows) (replicate (length rows) false) p reach) (sym none)
    (subst (λ r. IsOrdered (map set_of rows) (replicate (length rows) false) [] r) (sym empty) record {
      marks = length-replicate (length rows) false ∙ sym (length-map rows set_of);
      members = sets_ordered rows;
      points_rows = refl;
      points_order = refl;
      reach_rows = refl;
      reach_order = refl;
    })))
