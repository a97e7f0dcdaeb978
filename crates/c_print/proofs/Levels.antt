-- An expression with and without parentheses round it.
use Rattle.std.proofs.Common.{◌≡◌, ℕ, ◌<◌, ◌≤◌, nat_lt, refl, ap, ◌∙◌, sym, arith, if◌then◌else◌}
use Rattle.std.proofs.lemmas.Bool.Decides.{nat_tests}
use Rattle.c_ast.specs.declared.expr.Expr.{Expr, fold-Expr, fold-roll-Expr}
use Rattle.c_ast.specs.declared.expr.Form.{Form, out-Form, map-Form, fold_out-Form, roll-Form, fold-roll-Form}
use Rattle.c_ast.specs.declared.expr.Form.TheOpen.{Form-F}
use Rattle.c_print.specs.TreeTokens.{Kinds, Placed, bare_step, form_step, in_parens, level, of_expr, of_form}

-- one level, each of its operands by its tokens
abbrev pub mapped : Form-F Form Expr → Form-F Placed Placed
mapped x = map-Form Form Expr Placed Placed of_form of_expr x

folded : Expr → Placed
folded = fold-Expr Placed Placed form_step (λ e. e.form)

folded_is : folded ≡ of_expr
unfolding of_form folded
folded_is = λ i e. fold-roll-Expr Placed Placed form_step (λ x. x.form) (record { line = e.line; form = e.form }) i

pub by_roll : (x : Form-F Form Expr) → of_form (roll-Form x) ≡ form_step (mapped x)
unfolding of_form folded
by_roll x =
    fold-roll-Form Placed Placed form_step (λ e. e.form) x
    ∙ ap (λ (h : Expr → Placed). form_step (map-Form Form Expr Placed Placed of_form h x)) folded_is

-- the operands tell nothing of the level
same_level : {A B C D : Type 0} (f : A → C) (g : B → D) (x : Form-F A B) → level (map-Form A B C D f g x) ≡ level x
same_level {A} {B} {C} {D} f g x = elim x as (λ k. level (map-Form A B C D f g k) ≡ level k) [
  | Form-F.Binary left op right ↦ refl
  | Form-F.Unary op operand ↦ refl
  | Form-F.Cast to operand ↦ refl
  | Form-F.Index array index ↦ refl
  | Form-F.Field whole field ↦ refl
  | Form-F.Arrow pointer field ↦ refl
  | Form-F.Number value ↦ refl
  | Form-F.Null ↦ refl
  | Form-F.Name i ↦ refl
  | Form-F.Call function arguments ↦ refl
  | Form-F.Sizeof t ↦ refl
]

-- whether parentheses stand there
pub kept : (own place : ℕ) → place ≤ own → (kinds : Kinds) → (if nat_lt own place then in_parens kinds else kinds) ≡ kinds
kept own place h kinds = grind (arith, nat_tests)

put : (own place : ℕ) → own < place → (kinds : Kinds) → (if nat_lt own place then in_parens kinds else kinds) ≡ in_parens kinds
put own place h kinds = grind (arith, nat_tests)

by_out : (f : Form) (place : ℕ) → of_form f place ≡ form_step (mapped (out-Form f)) place
unfolding of_form folded
by_out f place =
    ap (λ g. g place) (fold_out-Form Placed Placed form_step (λ e. e.form) f
    ∙ ap (λ (h : Expr → Placed). form_step (map-Form Form Expr Placed Placed of_form h (out-Form f))) folded_is)

pub whole_is : (f : Form) → of_form f 0 ≡ bare_step (mapped (out-Form f))
whole_is f = by_out f 0 ∙ kept (level (mapped (out-Form f))) 0 (omega arith) (bare_step (mapped (out-Form f)))

pub tight : (f : Form) (place : ℕ) → place ≤ level (out-Form f) → of_form f place ≡ of_form f 0
tight f place h =
    let l = same_level of_form of_expr (out-Form f) in
    by_out f place ∙ kept _ place (omega (arith, l)) (bare_step (mapped (out-Form f))) ∙ sym (whole_is f)

pub loose : (f : Form) (place : ℕ) → level (out-Form f) < place → of_form f place ≡ in_parens (of_form f 0)
loose f place h =
    let l = same_level of_form of_expr (out-Form f) in
    by_out f place ∙ put _ place (omega (arith, l)) (bare_step (mapped (out-Form f))) ∙ ap in_parens (sym (whole_is f))
