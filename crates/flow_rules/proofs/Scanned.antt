-- A scan of all points finds the first at which something fails.
use Rattle.std.proofs.Common.{◌≡◌, ℕ, ◌+◌, ◌<◌, Bool, true, false, length, refl, sym, ap, ◌∙◌, subst, arith}
use Rattle.std.specs.Prelude.{nat_eq, nat_lt, ◌&&◌, if◌then◌else◌}
use Rattle.std.proofs.lemmas.Bool.{eqb-true, eq-eqb, ltb-true}
use Rattle.dfi_base.specs.declared.numbers.Point.{Point}
use Rattle.tac_ir.specs.declared.code.Code.{Code}
use Rattle.tac_ir.specs.GoodModule.{IsPoint}
use Rattle.tac_ir.specs.Layout.{lines_of}
use Rattle.flow_rules.specs.PointNumber.{point_at}
use Rattle.flow_rules.specs.FirstOpen.{IsFirstOpen}
use Rattle.flow_rules.specs.tools.Scan.{HoldsUpTo, HoldsBefore, IsOpenAt}

module _ (c : Code) (Holds : Point → Type 0) where
  pub next_index : (f n : ℕ) → HoldsUpTo Holds f n → Holds (point_at f n) → HoldsUpTo Holds f (n + 1)
  next_index f n before here = record { each = λ at low. by at low (nat_eq at n) refl }
    where
      by : (at : ℕ) → at < n + 1 → (b : Bool) → nat_eq at n ≡ b → Holds (point_at f at)
      by at low true is = subst (λ k. Holds (point_at f k)) (sym (eqb-true at n is)) here
      by at low false is = before.each at (let other : at ≡ n → ⊥ = λ e. (let clash = sym is ∙ eq-eqb at n e in cc) in omega (arith, low, other))

  pub next_fun : (n : ℕ) → HoldsBefore c Holds n → HoldsUpTo Holds n (length (lines_of c n)) → HoldsBefore c Holds (n + 1)
  next_fun n before here = record { each = λ q point low. by q point low (nat_eq q.fun n) refl }
    where
      by : (q : Point) → IsPoint c q → q.fun < n + 1 → (b : Bool) → nat_eq q.fun n ≡ b → Holds q
      by q point low true is =
          let same = eqb-true q.fun n is in
          subst (λ f. Holds (point_at f q.at)) (sym same) (here.each q.at (omega (arith, point, ap (λ f. length (lines_of c f)) same)))
      by q point low false is = before.each q point (let other : q.fun ≡ n → ⊥ = λ e. (let clash = sym is ∙ eq-eqb q.fun n e in cc) in omega (arith, low, other))

  pub first_open : (f at : ℕ) → HoldsBefore c Holds f → IsOpenAt c Holds f at → IsFirstOpen c Holds (point_at f at)
  first_open f at before here = record { point = here.low; fails = here.fails; before = λ q point less. by q point (nat_lt q.fun f) refl less }
    where
      both : (a b : Bool) → (a && b) ≡ true → (a ≡ true) × (b ≡ true)
      both true b h = (refl, h)
      both false b h = cc

      by : (q : Point) → IsPoint c q → (b : Bool) → nat_lt q.fun f ≡ b → (if b then true else (nat_eq q.fun f && nat_lt q.at at)) ≡ true → Holds q
      by q point true is less = before.each q point (ltb-true q.fun f is)
      by q point false is less =
          let parts = both (nat_eq q.fun f) (nat_lt q.at at) less in
          subst (λ g. Holds (point_at g q.at)) (sym (eqb-true q.fun f parts.0)) (here.before.each q.at (ltb-true q.at at parts.1))
