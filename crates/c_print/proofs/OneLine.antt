-- Each form of an expression on one line.
use Rattle.std.proofs.Common.{◌≡◌, ℤ, ◌∷◌, [], List, map, refl, ap, ◌∙◌, sym}
use Rattle.c_ast.specs.declared.ident.Ident.{Ident}
use Rattle.c_ast.specs.declared.decl.TypeName.{TypeName}
use Rattle.c_ast.specs.declared.expr.UnaryOp.{UnaryOp}
use Rattle.c_ast.specs.declared.expr.BinaryOp.{BinaryOp}
use Rattle.c_ast.specs.declared.expr.Expr.{Expr, fold-Expr, fold-roll-Expr}
use Rattle.c_ast.specs.declared.expr.Form.{Form, map-Form, roll-Form, fold-roll-Form}
use Rattle.c_ast.specs.declared.expr.Form.TheVariants as f
use Rattle.c_ast.specs.declared.expr.Form.TheOpen.{Form-F}
use Rattle.c_print.specs.SameTree.{expr, first, form, form_step, ident, type_name}

folded : Expr → Expr
folded = fold-Expr Form Expr (λ x. roll-Form (form_step x)) (λ e. record { line = first; form = e.form })

folded_is : folded ≡ expr
unfolding form folded
folded_is = λ i e. fold-roll-Expr Form Expr (λ x. roll-Form (form_step x)) (λ x. record { line = first; form = x.form }) (record { line = e.line; form = e.form }) i

abbrev mapped : Form-F Form Expr → Form-F Form Expr
mapped x = map-Form Form Expr Form Expr form expr x

by_roll : (x : Form-F Form Expr) → form (roll-Form x) ≡ roll-Form (form_step (mapped x))
unfolding form folded
by_roll x =
    fold-roll-Form Form Expr (λ y. roll-Form (form_step y)) (λ e. record { line = first; form = e.form }) x
    ∙ ap (λ (h : Expr → Expr). roll-Form (form_step (map-Form Form Expr Form Expr form h x))) folded_is

pub binary : (a : Expr) (op : BinaryOp) (b : Expr) → form (f.Binary a op b) ≡ f.Binary (expr a) op (expr b)
binary a op b = ap form (sym (f.rolls-Binary a op b)) ∙ by_roll (Form-F.Binary a op b) ∙ f.rolls-Binary (expr a) op (expr b)

pub unary : (op : UnaryOp) (a : Expr) → form (f.Unary op a) ≡ f.Unary op (expr a)
unary op a = ap form (sym (f.rolls-Unary op a)) ∙ by_roll (Form-F.Unary op a) ∙ f.rolls-Unary op (expr a)

pub cast : (t : TypeName) (a : Expr) → form (f.Cast t a) ≡ f.Cast (type_name t) (expr a)
cast t a = ap form (sym (f.rolls-Cast t a)) ∙ by_roll (Form-F.Cast t a) ∙ f.rolls-Cast (type_name t) (expr a)

pub index : (a b : Expr) → form (f.Index a b) ≡ f.Index (expr a) (expr b)
index a b = ap form (sym (f.rolls-Index a b)) ∙ by_roll (Form-F.Index a b) ∙ f.rolls-Index (expr a) (expr b)

pub field : (a : Expr) (i : Ident) → form (f.Field a i) ≡ f.Field (expr a) (ident i)
field a i = ap form (sym (f.rolls-Field a i)) ∙ by_roll (Form-F.Field a i) ∙ f.rolls-Field (expr a) (ident i)

pub arrow : (a : Expr) (i : Ident) → form (f.Arrow a i) ≡ f.Arrow (expr a) (ident i)
arrow a i = ap form (sym (f.rolls-Arrow a i)) ∙ by_roll (Form-F.Arrow a i) ∙ f.rolls-Arrow (expr a) (ident i)

pub numeral : (k : ℤ) → form (f.Number k) ≡ f.Number k
numeral k = ap form (sym (f.rolls-Number k)) ∙ by_roll (Form-F.Number k) ∙ f.rolls-Number k

pub null : form f.Null ≡ f.Null
null = ap form (sym f.rolls-Null) ∙ by_roll Form-F.Null ∙ f.rolls-Null

pub variable : (i : Ident) → form (f.Name i) ≡ f.Name (ident i)
variable i = ap form (sym (f.rolls-Name i)) ∙ by_roll (Form-F.Name i) ∙ f.rolls-Name (ident i)

pub sizeof : (t : TypeName) → form (f.Sizeof t) ≡ f.Sizeof (type_name t)
sizeof t = ap form (sym (f.rolls-Sizeof t)) ∙ by_roll (Form-F.Sizeof t) ∙ f.rolls-Sizeof (type_name t)

arguments_of : Form-F Form Expr → List Expr
arguments_of (Form-F.Call g args) = args
arguments_of _ = []

arguments_mapped : (g : Ident) (args : List Expr) → arguments_of (mapped (Form-F.Call g args)) ≡ map expr args
unfolding arguments_of
arguments_mapped g [] = refl
arguments_mapped g (x ∷ xs) = ap (λ ys. expr x ∷ ys) (arguments_mapped g xs)

pub call : (g : Ident) (args : List Expr) → form (f.Call g args) ≡ f.Call (ident g) (map expr args)
unfolding arguments_of
call g args =
    ap form (sym (f.rolls-Call g args)) ∙ by_roll (Form-F.Call g args)
    ∙ ap (λ ks. roll-Form (Form-F.Call (ident g) ks)) (arguments_mapped g args) ∙ f.rolls-Call (ident g) (map expr args)
