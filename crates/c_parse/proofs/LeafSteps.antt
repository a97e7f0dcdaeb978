-- The leaves of each form, from the leaves of its parts.
use Rattle.std.proofs.Common.{◌≡◌, ℤ, Option, Some, None, List, [], ◌∷◌, ◌++◌, refl, sym, ap, ◌∙◌}
use Rattle.dfi_base.specs.declared.numbers.Line.{Line}
use Rattle.c_ast.specs.declared.ident.Ident.{Ident}
use Rattle.c_ast.specs.declared.decl.TypeName.{TypeName}
use Rattle.c_ast.specs.declared.expr.UnaryOp.{UnaryOp}
use Rattle.c_ast.specs.declared.expr.BinaryOp.{BinaryOp}
use Rattle.c_ast.specs.declared.expr.Expr.{Expr, fold-roll-Expr}
use Rattle.c_ast.specs.declared.expr.Form.{Form, fold-Form, map-Form, roll-Form, fold-roll-Form}
use Rattle.c_ast.specs.declared.expr.Form.TheVariants as f
use Rattle.c_ast.specs.declared.expr.Form.TheOpen.{Form-F}
use Rattle.c_ast.specs.declared.stmt.Simple.{Simple}
use Rattle.c_ast.specs.declared.stmt.ForStart.{ForStart}
use Rattle.c_ast.specs.declared.stmt.Block.{Block}
use Rattle.c_ast.specs.declared.stmt.BlockItem.{BlockItem}
use Rattle.c_ast.specs.declared.stmt.Stmt.{Stmt, roll-Stmt, map-Stmt, fold-roll-Stmt}
use Rattle.c_ast.specs.declared.stmt.Stmt.TheOpen.{Stmt-F}
use Rattle.c_ast.specs.declared.stmt.Stmt.TheVariants as s
use Rattle.c_ast.specs.Leaves.{number, Leaves, of_ident, of_all, of_option, of_type, expr_step, of_expr, of_simple, of_decl, of_start, of_block_item, of_block_by, stmt_step, of_stmt, of_block}
use Rattle.c_parse.specs.Nodes as e

-- ---- expressions

of_form : Form → Leaves
of_form = fold-Form Leaves Leaves expr_step (λ x. x.form)

abbrev mapped : Form-F Form Expr → Form-F Leaves Leaves
mapped x = map-Form Form Expr Leaves Leaves of_form of_expr x

expr_is : (a : Expr) → of_expr a ≡ of_form a.form
unfolding of_expr of_form
expr_is a = fold-roll-Expr Leaves Leaves expr_step (λ x. x.form) (record { line = a.line; form = a.form })

by_roll : (x : Form-F Form Expr) → of_form (roll-Form x) ≡ expr_step (mapped x)
unfolding of_form of_expr
by_roll x = fold-roll-Form Leaves Leaves expr_step (λ y. y.form) x

pub of_binary : (l : Line) (a : Expr) (op : BinaryOp) (b : Expr) → of_expr (e.Binary l a op b) ≡ of_expr a ++ of_expr b
of_binary l a op b = expr_is (e.Binary l a op b) ∙ (ap of_form (sym (f.rolls-Binary a op b)) ∙ by_roll (Form-F.Binary a op b))

pub of_unary : (l : Line) (op : UnaryOp) (a : Expr) → of_expr (e.Unary l op a) ≡ of_expr a
of_unary l op a = expr_is (e.Unary l op a) ∙ (ap of_form (sym (f.rolls-Unary op a)) ∙ by_roll (Form-F.Unary op a))

pub of_cast : (l : Line) (t : TypeName) (a : Expr) → of_expr (e.Cast l t a) ≡ of_type t ++ of_expr a
of_cast l t a = expr_is (e.Cast l t a) ∙ (ap of_form (sym (f.rolls-Cast t a)) ∙ by_roll (Form-F.Cast t a))

pub of_index : (l : Line) (a b : Expr) → of_expr (e.Index l a b) ≡ of_expr a ++ of_expr b
of_index l a b = expr_is (e.Index l a b) ∙ (ap of_form (sym (f.rolls-Index a b)) ∙ by_roll (Form-F.Index a b))

pub of_field : (l : Line) (a : Expr) (i : Ident) → of_expr (e.Field l a i) ≡ of_expr a ++ of_ident i
of_field l a i = expr_is (e.Field l a i) ∙ (ap of_form (sym (f.rolls-Field a i)) ∙ by_roll (Form-F.Field a i))

pub of_arrow : (l : Line) (a : Expr) (i : Ident) → of_expr (e.Arrow l a i) ≡ of_expr a ++ of_ident i
of_arrow l a i = expr_is (e.Arrow l a i) ∙ (ap of_form (sym (f.rolls-Arrow a i)) ∙ by_roll (Form-F.Arrow a i))

pub of_number : (l : Line) (k : ℤ) → of_expr (e.Number l k) ≡ number k ∷ []
of_number l k = expr_is (e.Number l k) ∙ (ap of_form (sym (f.rolls-Number k)) ∙ by_roll (Form-F.Number k))

pub of_null : (l : Line) → of_expr (e.Null l) ≡ []
of_null l = expr_is (e.Null l) ∙ (ap of_form (sym f.rolls-Null) ∙ by_roll Form-F.Null)

pub of_name : (i : Ident) → of_expr (e.Name i) ≡ of_ident i
of_name i = expr_is (e.Name i) ∙ (ap of_form (sym (f.rolls-Name i)) ∙ by_roll (Form-F.Name i))

pub of_sizeof : (l : Line) (t : TypeName) → of_expr (e.Sizeof l t) ≡ of_type t
of_sizeof l t = expr_is (e.Sizeof l t) ∙ (ap of_form (sym (f.rolls-Sizeof t)) ∙ by_roll (Form-F.Sizeof t))

abbrev arguments_of : Form-F Leaves Leaves → List Leaves
arguments_of (Form-F.Call g args) = args
arguments_of _ = []

arguments_mapped : (g : Ident) (args : List Expr) → of_all (λ a. a) (arguments_of (mapped (Form-F.Call g args))) ≡ of_all of_expr args
arguments_mapped g [] = refl
arguments_mapped g (x ∷ xs) = ap (λ z. of_expr x ++ z) (arguments_mapped g xs)

pub of_call : (g : Ident) (args : List Expr) → of_expr (e.Call g args) ≡ of_ident g ++ of_all of_expr args
of_call g args =
    expr_is (e.Call g args) ∙ (ap of_form (sym (f.rolls-Call g args)) ∙ (by_roll (Form-F.Call g args) ∙ ap (λ z. of_ident g ++ z) (arguments_mapped g args)))

-- ---- statements

abbrev turned : Stmt-F Stmt → Stmt-F Leaves
turned x = map-Stmt Stmt Leaves of_stmt x

stmt_roll : (x : Stmt-F Stmt) → of_stmt (roll-Stmt x) ≡ stmt_step (turned x)
unfolding of_stmt
stmt_roll x = fold-roll-Stmt Leaves stmt_step x

abbrev items_of : Stmt-F Leaves → List (BlockItem Leaves)
items_of (Stmt-F.Block b) = b.items
items_of _ = []

items_turned : (l p : Line) (items : List (BlockItem Stmt))
    → of_all (of_block_item (λ x. x)) (items_of (turned (Stmt-F.Block (record { line = l; items = items; close = p })))) ≡ of_all (of_block_item of_stmt) items
items_turned l p [] = refl
items_turned l p (BlockItem.Decl d ∷ is) = ap (λ z. of_decl d ++ z) (items_turned l p is)
items_turned l p (BlockItem.Stmt x ∷ is) = ap (λ z. of_stmt x ++ z) (items_turned l p is)

abbrev branches_of : Stmt-F Leaves → List (Block Leaves)
branches_of (Stmt-F.Par l bs) = bs
branches_of _ = []

branches_turned : (l : Line) (bs : List (Block Stmt)) → of_all (of_block_by (λ x. x)) (branches_of (turned (Stmt-F.Par l bs))) ≡ of_all of_block bs
branches_turned l [] = refl
branches_turned l (b ∷ bs) =
    ap (λ z. z ++ of_all (of_block_by (λ x. x)) (branches_of (turned (Stmt-F.Par l bs)))) (items_turned b.line b.close b.items)
    ∙ ap (λ z. of_block b ++ z) (branches_turned l bs)

pub of_braced : (b : Block Stmt) → of_stmt (s.Block b) ≡ of_block b
of_braced b = ap of_stmt (sym (s.rolls-Block b)) ∙ (stmt_roll (Stmt-F.Block b) ∙ items_turned b.line b.close b.items)

pub of_empty : (l : Line) → of_stmt (s.Empty l) ≡ []
of_empty l = ap of_stmt (sym (s.rolls-Empty l)) ∙ stmt_roll (Stmt-F.Empty l)

pub of_simple_stmt : (a : Simple) → of_stmt (s.Simple a) ≡ of_simple a
of_simple_stmt a = ap of_stmt (sym (s.rolls-Simple a)) ∙ stmt_roll (Stmt-F.Simple a)

pub of_return : (l : Line) (a : Option Expr) → of_stmt (s.Return l a) ≡ of_option of_expr a
of_return l a = ap of_stmt (sym (s.rolls-Return l a)) ∙ stmt_roll (Stmt-F.Return l a)

pub of_break : (l : Line) → of_stmt (s.Break l) ≡ []
of_break l = ap of_stmt (sym (s.rolls-Break l)) ∙ stmt_roll (Stmt-F.Break l)

pub of_continue : (l : Line) → of_stmt (s.Continue l) ≡ []
of_continue l = ap of_stmt (sym (s.rolls-Continue l)) ∙ stmt_roll (Stmt-F.Continue l)

pub of_if : (l : Line) (a : Expr) (x : Stmt) → of_stmt (s.If l a x None) ≡ of_expr a ++ of_stmt x ++ []
of_if l a x = ap of_stmt (sym (s.rolls-If l a x None)) ∙ stmt_roll (Stmt-F.If l a x None)

pub of_if_else : (l : Line) (a : Expr) (x y : Stmt) → of_stmt (s.If l a x (Some y)) ≡ of_expr a ++ of_stmt x ++ of_stmt y
of_if_else l a x y = ap of_stmt (sym (s.rolls-If l a x (Some y))) ∙ stmt_roll (Stmt-F.If l a x (Some y))

pub of_while : (l : Line) (a : Expr) (x : Stmt) → of_stmt (s.While l a x) ≡ of_expr a ++ of_stmt x
of_while l a x = ap of_stmt (sym (s.rolls-While l a x)) ∙ stmt_roll (Stmt-F.While l a x)

pub of_for : (l : Line) (start : ForStart) (a : Option Expr) (step : Option Simple) (x : Stmt)
    → of_stmt (s.For l start a step x) ≡ of_start start ++ of_option of_expr a ++ of_option of_simple step ++ of_stmt x
of_for l start a step x = ap of_stmt (sym (s.rolls-For l start a step x)) ∙ stmt_roll (Stmt-F.For l start a step x)

pub of_par : (l : Line) (bs : List (Block Stmt)) → of_stmt (s.Par l bs) ≡ of_all of_block bs
of_par l bs = ap of_stmt (sym (s.rolls-Par l bs)) ∙ (stmt_roll (Stmt-F.Par l bs) ∙ branches_turned l bs)
