-- The loops over fields and arguments.
use Rattle.std.proofs.Common.{◌≡◌, ℕ, zero, suc, ◌<◌, false, List, [], ◌∷◌, length, drop, get_or, refl, ap, sym, ◌∙◌, arith}
use Rattle.std.specs.Prelude.{◌&&◌}
use Rattle.c_typed.specs.declared.types.ObjectType.{ObjectType}
use Rattle.c_typed.specs.declared.expr.Expr.{Expr}
use Rattle.c_typed.specs.Types.{accepts}
use Rattle.c_typed.specs.Exprs.{all_fit}
use Rattle.c_typed.proofs.TypesSame.{and_false}

pub fit_unlike : (es : List Expr) (ts : List ObjectType) → (length es ≡ length ts → ⊥) → false ≡ all_fit es ts
fit_unlike [] [] differ = absurd (differ refl)
fit_unlike [] (t ∷ ts) differ = refl
fit_unlike (e ∷ es) [] differ = refl
fit_unlike (e ∷ es) (t ∷ ts) differ =
    let rest = fit_unlike es ts (λ same. differ (ap suc same)) in
    sym (ap (λ b. accepts e.typing t && b) (sym rest) ∙ and_false (accepts e.typing t))

pub fit_step : (i : ℕ) (es : List Expr) (ts : List ObjectType) (e : Expr) (t : ObjectType) → i < length es → i < length ts → e ≡ get_or es i e → t ≡ get_or ts i t
    → all_fit (drop i es) (drop i ts) ≡ (accepts e.typing t && all_fit (drop (suc i) es) (drop (suc i) ts))
fit_step i [] ts e t p q is that = absurd (omega (arith, p))
fit_step i (x ∷ es) [] e t p q is that = absurd (omega (arith, q))
fit_step zero (x ∷ es) (y ∷ ts) e t p q is that = ap (λ e. accepts e.typing y && all_fit es ts) (sym is) ∙ ap (λ t. accepts e.typing t && all_fit es ts) (sym that)
fit_step (suc i) (x ∷ es) (y ∷ ts) e t p q is that = fit_step i es ts e t (omega (arith, p)) (omega (arith, q)) is that
