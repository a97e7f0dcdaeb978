-- An expression, a type name and the base of a declaration leave no marks.
use Rattle.std.proofs.Common.{◌≡◌, Bool, List, [], ◌++◌, refl, ap, sym, ◌∙◌, subst}
use Rattle.dfi_base.specs.declared.numbers.Line.{Line}
use Rattle.std.specs.Prelude.{nat_eq}
use Rattle.c_ast.specs.declared.decl.Base.{Base}
use Rattle.c_ast.specs.declared.decl.TypeName.{TypeName}
use Rattle.c_ast.specs.declared.expr.UnaryOp.{UnaryOp}
use Rattle.c_ast.specs.declared.expr.Expr.{ind-Expr, Expr as SourceExpr}
use Rattle.c_ast.specs.declared.expr.Form.{Form as SourceForm, map-Form}
use Rattle.c_ast.specs.declared.expr.Form.TheOpen.{Form-F as Source}
use Rattle.c_typed.specs.Marks.{Mark}
use Rattle.c_typed.specs.Whole.{Whole}
use Rattle.c_typed.specs.Parts.{Place, Part, marked, behind}
use Rattle.c_typed.specs.Tags.{base, type_name}
use Rattle.c_typed.specs.Exprs.{Reading, unary, form_step, expr}
use Rattle.c_typed.proofs.Levels.{mapped_form, read_form, form_roll, expr_reads}

pub no_marks : {ms ns : List Mark} → ms ≡ [] → ns ≡ [] → ms ++ ns ≡ []
no_marks {ms} {ns} is that = ap (λ ms. ms ++ ns) is ∙ that

pub quiet_base : (w : Whole) (by_value : Bool) (b : Base) → (base w by_value b).marks ≡ []
quiet_base w by_value (Base.Int line) = refl
quiet_base w by_value (Base.Struct line tag) = refl

pub quiet_type_name : (w : Whole) (t : TypeName) → (type_name w t).marks ≡ []
quiet_type_name w t = no_marks (quiet_base w (nat_eq t.stars 0) t.base) refl

abbrev pub IsQuiet : Reading → Type 0
IsQuiet r = r.plain.marks ≡ []

quiet_unary : (op : UnaryOp) (line : Line) (r : Reading) → IsQuiet r → (unary op line r).marks ≡ []
quiet_unary UnaryOp.Minus line r is = is
quiet_unary UnaryOp.Plus line r is = is
quiet_unary UnaryOp.Not line r is = is
quiet_unary UnaryOp.Complement line r is = is
quiet_unary UnaryOp.Deref line r is = is
quiet_unary UnaryOp.Address line r is = is

abbrev FormQuiet : Whole → SourceForm → Type 0
FormQuiet w f = (line : Line) → IsQuiet (read_form w f line)

abbrev ExprQuiet : Whole → SourceExpr → Type 0
ExprQuiet w e = IsQuiet (expr w e)

abbrev Known : Whole → Type 0
Known w = (e : SourceExpr) × ExprQuiet w e

abbrev KnownForm : Whole → Type 0
KnownForm w = (f : SourceForm) × FormQuiet w f

level_quiet : (w : Whole) (line : Line) (y : Source (KnownForm w) (Known w))
    → IsQuiet (form_step w (mapped_form w (map-Form (KnownForm w) (Known w) SourceForm SourceExpr (λ f. f.0) (λ e. e.0) y)) line)
level_quiet w line (Source.Binary l op r) = no_marks (no_marks l.1 refl) r.1
level_quiet w line (Source.Unary op x) = quiet_unary op line (expr w x.0) x.1
level_quiet w line (Source.Cast to x) = no_marks (no_marks (quiet_type_name w to) refl) x.1
level_quiet w line (Source.Index x i) = no_marks (no_marks (no_marks x.1 refl) i.1) refl
level_quiet w line (Source.Field x f) = x.1
level_quiet w line (Source.Arrow x f) = x.1
level_quiet w line (Source.Number k) = refl
level_quiet w line Source.Null = refl
level_quiet w line (Source.Name i) = refl
level_quiet w line (Source.Call f es) = refl
level_quiet w line (Source.Sizeof t) = no_marks (quiet_type_name w t) refl

-- Every expression.
pub quiet : (w : Whole) (e : SourceExpr) → (expr w e).plain.marks ≡ []
quiet w = ind-Expr (FormQuiet w) (ExprQuiet w)
    (λ x y is line. subst (λ r. IsQuiet r) (sym (form_roll w line x)) (subst (λ x. IsQuiet (form_step w (mapped_form w x) line)) is (level_quiet w line y)))
    (λ x y is. subst (λ x. IsQuiet (expr w (record { line = x.line; form = x.form }))) is (subst (λ r. IsQuiet r) (sym (expr_reads w y.line y.form.0)) (y.form.1 y.line)))

-- so what stands before a place stands before that behind it
pub before_same : {A : Type 0} (p : Part A) (here : Place) → p.marks ≡ [] → (behind p here).before ≡ here.before
before_same p here is = ap (λ ms. marked ms here.before) is
