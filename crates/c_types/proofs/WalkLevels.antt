-- The equations of the walk over an expression, one level at a time.
use Rattle.std.proofs.Common.{◌≡◌, ℤ, List, map, refl, ap, sym, ◌∙◌}
use Rattle.dfi_base.specs.declared.numbers.Line.{Line}
use Rattle.c_ast.specs.declared.decl.TypeName.{TypeName}
use Rattle.c_ast.specs.declared.ident.Ident.{Ident}
use Rattle.c_ast.specs.declared.expr.UnaryOp.{UnaryOp}
use Rattle.c_ast.specs.declared.expr.BinaryOp.{BinaryOp}
use Rattle.c_ast.specs.declared.expr.Form.TheVariants as form
use Rattle.c_ast.specs.declared.expr.Expr.{fold-roll-Expr, Expr as SourceExpr}
use Rattle.c_ast.specs.declared.expr.Form.{fold-roll-Form, roll-out-Form, out-Form, Form as SourceForm, roll-Form, map-Form, fold-Form}
use Rattle.c_ast.specs.declared.expr.Form.TheOpen.{Form-F as Source}
use Rattle.c_types.specs.declared.outline.Outline.{Outline}
use Rattle.c_types.specs.declared.known.Known.{Known}
use Rattle.c_types.specs.tools.ExprWalk.{Finding, form_walk, expr_walk}

abbrev pub find_form : Outline → Known → SourceForm → Line → Finding
find_form o k = fold-Form (Line → Finding) Finding (form_walk o k) (λ e. e.form e.line)

abbrev pub found_form : Outline → Known → Source SourceForm SourceExpr → Source (Line → Finding) Finding
found_form o k x = map-Form SourceForm SourceExpr (Line → Finding) Finding (find_form o k) (expr_walk o k) x

pub walk_roll : (o : Outline) (k : Known) (line : Line) (x : Source SourceForm SourceExpr) → expr_walk o k (record { line = line; form = roll-Form x }) ≡ form_walk o k (found_form o k x) line
unfolding expr_walk
walk_roll o k line x =
    fold-roll-Expr (Line → Finding) Finding (form_walk o k) (λ e. e.form e.line) (record { line = line; form = roll-Form x })
    ∙ ap (λ f. f line) (fold-roll-Form (Line → Finding) Finding (form_walk o k) (λ e. e.form e.line) x)

pub walk_form_roll : (o : Outline) (k : Known) (line : Line) (x : Source SourceForm SourceExpr) → find_form o k (roll-Form x) line ≡ form_walk o k (found_form o k x) line
unfolding expr_walk
walk_form_roll o k line x = ap (λ f. f line) (fold-roll-Form (Line → Finding) Finding (form_walk o k) (λ e. e.form e.line) x)

pub walk_reads : (o : Outline) (k : Known) (line : Line) (f : SourceForm) → expr_walk o k (record { line = line; form = f }) ≡ find_form o k f line
unfolding expr_walk
walk_reads o k line f = fold-roll-Expr (Line → Finding) Finding (form_walk o k) (λ e. e.form e.line) (record { line = line; form = f })

pub walk_binary : (o : Outline) (k : Known) (e : SourceExpr) (l : SourceExpr) (op : BinaryOp) (r : SourceExpr) → e.form ≡ (form.Binary l op r) → expr_walk o k e ≡ form_walk o k (Source.Binary (expr_walk o k l) op (expr_walk o k r)) e.line
walk_binary o k e l op r is = ap (λ f. expr_walk o k (record { line = e.line; form = f })) (is ∙ sym (form.rolls-Binary l op r)) ∙ walk_roll o k e.line (Source.Binary l op r)

pub walk_unary : (o : Outline) (k : Known) (e : SourceExpr) (op : UnaryOp) (x : SourceExpr) → e.form ≡ (form.Unary op x) → expr_walk o k e ≡ form_walk o k (Source.Unary op (expr_walk o k x)) e.line
walk_unary o k e op x is = ap (λ f. expr_walk o k (record { line = e.line; form = f })) (is ∙ sym (form.rolls-Unary op x)) ∙ walk_roll o k e.line (Source.Unary op x)

pub walk_cast : (o : Outline) (k : Known) (e : SourceExpr) (to : TypeName) (x : SourceExpr) → e.form ≡ (form.Cast to x) → expr_walk o k e ≡ form_walk o k (Source.Cast to (expr_walk o k x)) e.line
walk_cast o k e to x is = ap (λ f. expr_walk o k (record { line = e.line; form = f })) (is ∙ sym (form.rolls-Cast to x)) ∙ walk_roll o k e.line (Source.Cast to x)

pub walk_index : (o : Outline) (k : Known) (e : SourceExpr) (x i : SourceExpr) → e.form ≡ (form.Index x i) → expr_walk o k e ≡ form_walk o k (Source.Index (expr_walk o k x) (expr_walk o k i)) e.line
walk_index o k e x i is = ap (λ f. expr_walk o k (record { line = e.line; form = f })) (is ∙ sym (form.rolls-Index x i)) ∙ walk_roll o k e.line (Source.Index x i)

pub walk_field : (o : Outline) (k : Known) (e : SourceExpr) (x : SourceExpr) (f : Ident) → e.form ≡ (form.Field x f) → expr_walk o k e ≡ form_walk o k (Source.Field (expr_walk o k x) f) e.line
walk_field o k e x f is = ap (λ f. expr_walk o k (record { line = e.line; form = f })) (is ∙ sym (form.rolls-Field x f)) ∙ walk_roll o k e.line (Source.Field x f)

pub walk_arrow : (o : Outline) (k : Known) (e : SourceExpr) (x : SourceExpr) (f : Ident) → e.form ≡ (form.Arrow x f) → expr_walk o k e ≡ form_walk o k (Source.Arrow (expr_walk o k x) f) e.line
walk_arrow o k e x f is = ap (λ f. expr_walk o k (record { line = e.line; form = f })) (is ∙ sym (form.rolls-Arrow x f)) ∙ walk_roll o k e.line (Source.Arrow x f)

pub walk_number : (o : Outline) (k : Known) (e : SourceExpr) (n : ℤ) → e.form ≡ (form.Number n) → expr_walk o k e ≡ form_walk o k (Source.Number n) e.line
walk_number o k e n is = ap (λ f. expr_walk o k (record { line = e.line; form = f })) (is ∙ sym (form.rolls-Number n)) ∙ walk_roll o k e.line (Source.Number n)

pub walk_null : (o : Outline) (k : Known) (e : SourceExpr) → e.form ≡ form.Null → expr_walk o k e ≡ form_walk o k Source.Null e.line
walk_null o k e is = ap (λ f. expr_walk o k (record { line = e.line; form = f })) (is ∙ sym form.rolls-Null) ∙ walk_roll o k e.line Source.Null

pub walk_name : (o : Outline) (k : Known) (e : SourceExpr) (i : Ident) → e.form ≡ (form.Name i) → expr_walk o k e ≡ form_walk o k (Source.Name i) e.line
walk_name o k e i is = ap (λ f. expr_walk o k (record { line = e.line; form = f })) (is ∙ sym (form.rolls-Name i)) ∙ walk_roll o k e.line (Source.Name i)

pub walk_call : (o : Outline) (k : Known) (e : SourceExpr) (f : Ident) (xs : List SourceExpr) → e.form ≡ (form.Call f xs) → expr_walk o k e ≡ form_walk o k (Source.Call f (map (expr_walk o k) xs)) e.line
walk_call o k e f xs is = ap (λ f. expr_walk o k (record { line = e.line; form = f })) (is ∙ sym (form.rolls-Call f xs)) ∙ walk_roll o k e.line (Source.Call f xs)

pub walk_sizeof : (o : Outline) (k : Known) (e : SourceExpr) (t : TypeName) → e.form ≡ (form.Sizeof t) → expr_walk o k e ≡ form_walk o k (Source.Sizeof t) e.line
walk_sizeof o k e t is = ap (λ f. expr_walk o k (record { line = e.line; form = f })) (is ∙ sym (form.rolls-Sizeof t)) ∙ walk_roll o k e.line (Source.Sizeof t)

walk_line_step : (o : Outline) (k : Known) (y : Source (Line → Finding) Finding) (line : Line) → (form_walk o k y line).line ≡ line
walk_line_step o k (Source.Binary l op r) line = refl
walk_line_step o k (Source.Unary op x) line = refl
walk_line_step o k (Source.Cast to x) line = refl
walk_line_step o k (Source.Index x i) line = refl
walk_line_step o k (Source.Field x f) line = refl
walk_line_step o k (Source.Arrow x f) line = refl
walk_line_step o k (Source.Number n) line = refl
walk_line_step o k Source.Null line = refl
walk_line_step o k (Source.Name i) line = refl
walk_line_step o k (Source.Call f xs) line = refl
walk_line_step o k (Source.Sizeof t) line = refl

pub walk_line : (o : Outline) (k : Known) (e : SourceExpr) → (expr_walk o k e).line ≡ e.line
walk_line o k e =
    ap (λ f. (expr_walk o k (record { line = e.line; form = f })).line) (sym (roll-out-Form e.form))
    ∙ ap (λ r. r.line) (walk_roll o k e.line (out-Form e.form)) ∙ walk_line_step o k (found_form o k (out-Form e.form)) e.line
