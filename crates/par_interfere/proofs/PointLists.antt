-- The list of all points: each real point stands at its number.
use Rattle.std.proofs.Common.{◌≡◌, ℕ, zero, suc, ◌+◌, ◌<◌, List, [], ◌∷◌, ◌++◌, length, get_or, take, map, sum, refl, sym, ap, ap₂, subst, ◌∙◌, arith, Some, inl, inr}
use Rattle.std.specs.Prelude.{slice_get}
use Rattle.std.proofs.lemmas.List.Sums.{sum-map, sum_by-cons}
use Rattle.std.proofs.lemmas.Option.{slice_get-get_or}
use Rattle.dfi_base.specs.declared.numbers.Point.{Point}
use Rattle.tac_ir.specs.declared.code.Code.{Code}
use Rattle.tac_ir.specs.declared.code.Fun.{Fun}
use Rattle.tac_ir.specs.GoodModule.{IsPoint}
use Rattle.flow_rules.specs.PointNumber.{point_at, point_number}
use Rattle.flow_rules.proofs.PointNumbers.{size, fun_of, number_below}
use Rattle.par_interfere.specs.tools.Points.{HasNumber, AreNumbered, ArePoints}
use Rattle.par_interfere.proofs.Listed.{get_push}

sum_cons : (x : Fun) (xs : List Fun) → sum (map size (x ∷ xs)) ≡ size x + sum (map size xs)
sum_cons x xs = sum-map size (x ∷ xs) ∙ sum_by-cons size x xs ∙ ap (λ k. size x + k) (sym (sum-map size xs))

-- a number is that of one function and index
one_place : (funs : List Fun) (f g i j : ℕ) (x y : Fun) → slice_get funs f ≡ Some x → slice_get funs g ≡ Some y → i < length x.code → j < length y.code
    → sum (map size (take f funs)) + i ≡ sum (map size (take g funs)) + j → (f ≡ g) × (i ≡ j)
one_place [] f g i j x y one two low less same = cc
one_place (z ∷ funs) zero zero i j x y one two low less same = (refl, omega (arith, same))
one_place (z ∷ funs) zero (suc g) i j x y one two low less same =
    let eq : z ≡ x = cc in
    absurd (omega (arith, same, low, ap size eq, sum_cons z (take g funs)))
one_place (z ∷ funs) (suc f) zero i j x y one two low less same =
    let eq : z ≡ y = cc in
    absurd (omega (arith, same, less, ap size eq, sum_cons z (take f funs)))
one_place (z ∷ funs) (suc f) (suc g) i j x y one two low less same =
    let r = one_place funs f g i j x y one two low less (omega (arith, same, sum_cons z (take f funs), sum_cons z (take g funs))) in
    (ap suc r.0, r.1)

pub one_point : (c : Code) (p q : Point) → IsPoint c p → IsPoint c q → point_number c p ≡ point_number c q → p ≡ q
one_point c p q real other same =
    let f = fun_of c p real in
    let g = fun_of c q other in
    let r = one_place c.funs p.fun q.fun p.at q.at f.0 g.0 f.1.found g.1.found f.1.low g.1.low same in
    ap₂ point_at r.0 r.1

-- each point stands at its number
pub listed : (c : Code) (points : List Point) → ArePoints c points → (p : Point) → IsPoint c p → slice_get points (point_number c p) ≡ Some p
listed c points all p real =
    let low : point_number c p < length points = omega (arith, number_below c p real, all.count) in
    let here = slice_get-get_or points (point_number c p) p low in
    let is = all.numbered (point_number c p) (get_or points (point_number c p) p) here in
    here ∙ ap Some (one_point c (get_or points (point_number c p) p) p is.real real is.number)

-- one point more
pub numbered_push : (c : Code) (points : List Point) (p : Point) → AreNumbered c points → IsPoint c p → length points ≡ point_number c p → AreNumbered c (points ++ p ∷ [])
numbered_push c points p old real number n q is = elim (get_push points p n q is) [
  | inl front ↦ old n q front
  | inr last ↦ subst (λ z. HasNumber c z n) (sym last.same) (record { real = real; number = sym number ∙ sym last.number })
]

pub none_numbered : (c : Code) → AreNumbered c []
none_numbered c n p is = cc
