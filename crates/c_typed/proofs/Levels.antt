-- The equations of `expr` and `stmt`, one level at a time.
use Rattle.std.proofs.Common.{◌≡◌, ℤ, List, [], ◌∷◌, map, refl, ap, sym, ◌∙◌}
use Rattle.dfi_base.specs.declared.numbers.Line.{Line}
use Rattle.c_ast.specs.declared.decl.TypeName.{TypeName}
use Rattle.c_ast.specs.declared.ident.Ident.{Ident}
use Rattle.c_ast.specs.declared.expr.UnaryOp.{UnaryOp}
use Rattle.c_ast.specs.declared.expr.BinaryOp.{BinaryOp}
use Rattle.c_ast.specs.declared.expr.Form.TheVariants as form
use Rattle.c_ast.specs.declared.expr.Expr.{fold-roll-Expr, Expr as SourceExpr}
use Rattle.c_ast.specs.declared.expr.Form.{fold-roll-Form, roll-out-Form, out-Form, Form as SourceForm, roll-Form, map-Form, fold-Form}
use Rattle.c_ast.specs.declared.expr.Form.TheOpen.{Form-F as Source}
use Rattle.c_ast.specs.declared.stmt.Stmt.{fold-roll-Stmt, roll-Stmt, map-Stmt, Stmt as SourceStmt}
use Rattle.c_ast.specs.declared.stmt.Stmt.TheOpen.{Stmt-F as Source-S}
use Rattle.c_typed.specs.declared.stmt.Stmt.{Stmt}
use Rattle.c_typed.specs.Whole.{Whole}
use Rattle.c_typed.specs.Parts.{Part}
use Rattle.c_typed.specs.Exprs.{Reading, form_step, expr}
use Rattle.c_typed.specs.Stmts.{stmt_step, stmt}
use Rattle.c_typed.specs.Programs.{with_part}
use Rattle.c_ast.specs.declared.stmt.Block.{Block}
use Rattle.c_ast.specs.declared.stmt.BlockItem.{BlockItem}

pub stmt_roll : (w : Whole) (x : Source-S SourceStmt) → stmt w (roll-Stmt x) ≡ stmt_step w (map-Stmt SourceStmt (Part Stmt) (stmt w) x)
unfolding stmt
stmt_roll w x = fold-roll-Stmt (Part Stmt) (stmt_step w) x

abbrev pub read_form : Whole → SourceForm → Line → Reading
read_form w = fold-Form (Line → Reading) Reading (form_step w) (λ e. e.form e.line)

pub expr_roll : (w : Whole) (line : Line) (x : Source SourceForm SourceExpr) → expr w (record { line = line; form = roll-Form x }) ≡ form_step w (map-Form SourceForm SourceExpr (Line → Reading) Reading (read_form w) (expr w) x) line
unfolding expr
expr_roll w line x =
    fold-roll-Expr (Line → Reading) Reading (form_step w) (λ e. e.form e.line) (record { line = line; form = roll-Form x })
    ∙ ap (λ f. f line) (fold-roll-Form (Line → Reading) Reading (form_step w) (λ e. e.form e.line) x)

-- The statements of a block are those of its parts.
abbrev pub items_of : Source-S (Part Stmt) → List (BlockItem (Part Stmt))
items_of (Source-S.Block b) = b.items
items_of _ = []

abbrev pub blocks_of : Source-S (Part Stmt) → List (Block (Part Stmt))
blocks_of (Source-S.Par line bs) = bs
blocks_of _ = []

abbrev pub mapped : Whole → Source-S SourceStmt → Source-S (Part Stmt)
mapped w x = map-Stmt SourceStmt (Part Stmt) (stmt w) x

items_mapped : (w : Whole) (line close : Line) (xs : List (BlockItem SourceStmt)) → items_of (mapped w (Source-S.Block (record { line = line; items = xs; close = close }))) ≡ map (with_part w) xs
items_mapped w line close [] = refl
items_mapped w line close (BlockItem.Decl d ∷ xs) = ap (λ ys. BlockItem.Decl d ∷ ys) (items_mapped w line close xs)
items_mapped w line close (BlockItem.Stmt s ∷ xs) = ap (λ ys. BlockItem.Stmt (stmt w s) ∷ ys) (items_mapped w line close xs)

abbrev pub first_items : List (Block (Part Stmt)) → List (BlockItem (Part Stmt))
first_items [] = []
first_items (b ∷ bs) = b.items

first_mapped : (w : Whole) (line l c : Line) (bs : List (Block SourceStmt)) (xs : List (BlockItem SourceStmt)) → first_items (blocks_of (mapped w (Source-S.Par line (record { line = l; items = xs; close = c } ∷ bs)))) ≡ map (with_part w) xs
first_mapped w line l c bs [] = refl
first_mapped w line l c bs (BlockItem.Decl d ∷ xs) = ap (λ ys. BlockItem.Decl d ∷ ys) (first_mapped w line l c bs xs)
first_mapped w line l c bs (BlockItem.Stmt s ∷ xs) = ap (λ ys. BlockItem.Stmt (stmt w s) ∷ ys) (first_mapped w line l c bs xs)

abbrev pub with_parts : Whole → Block SourceStmt → Block (Part Stmt)
with_parts w b = record { line = b.line; items = map (with_part w) b.items; close = b.close }

blocks_mapped : (w : Whole) (line : Line) (bs : List (Block SourceStmt)) → blocks_of (mapped w (Source-S.Par line bs)) ≡ map (with_parts w) bs
blocks_mapped w line [] = refl
blocks_mapped w line (b ∷ bs) =
    ap (λ ys. record { line = b.line; items = ys; close = b.close } ∷ blocks_of (mapped w (Source-S.Par line bs))) (first_mapped w line b.line b.close bs b.items)
    ∙ ap (λ ys. with_parts w b ∷ ys) (blocks_mapped w line bs)

pub stmt_block : (w : Whole) (b : Block SourceStmt) → stmt w (roll-Stmt (Source-S.Block b)) ≡ stmt_step w (Source-S.Block (with_parts w b))
stmt_block w b = stmt_roll w (Source-S.Block b) ∙ ap (λ ys. stmt_step w (Source-S.Block (record { line = b.line; items = ys; close = b.close }))) (items_mapped w b.line b.close b.items)

pub stmt_par : (w : Whole) (line : Line) (bs : List (Block SourceStmt)) → stmt w (roll-Stmt (Source-S.Par line bs)) ≡ stmt_step w (Source-S.Par line (map (with_parts w) bs))
stmt_par w line bs = stmt_roll w (Source-S.Par line bs) ∙ ap (λ ys. stmt_step w (Source-S.Par line ys)) (blocks_mapped w line bs)

abbrev pub mapped_form : Whole → Source SourceForm SourceExpr → Source (Line → Reading) Reading
mapped_form w x = map-Form SourceForm SourceExpr (Line → Reading) Reading (read_form w) (expr w) x

pub form_roll : (w : Whole) (line : Line) (x : Source SourceForm SourceExpr) → read_form w (roll-Form x) line ≡ form_step w (mapped_form w x) line
unfolding expr
form_roll w line x = ap (λ f. f line) (fold-roll-Form (Line → Reading) Reading (form_step w) (λ e. e.form e.line) x)

pub expr_reads : (w : Whole) (line : Line) (f : SourceForm) → expr w (record { line = line; form = f }) ≡ read_form w f line
unfolding expr
expr_reads w line f = fold-roll-Expr (Line → Reading) Reading (form_step w) (λ e. e.form e.line) (record { line = line; form = f })

-- An expression of a form that is known.
pub binary_is : (w : Whole) (e : SourceExpr) (l : SourceExpr) (op : BinaryOp) (r : SourceExpr) → e.form ≡ (form.Binary l op r) → expr w e ≡ form_step w (Source.Binary (expr w l) op (expr w r)) e.line
binary_is w e l op r is = ap (λ f. expr w (record { line = e.line; form = f })) (is ∙ sym (form.rolls-Binary l op r)) ∙ expr_roll w e.line (Source.Binary l op r)

pub unary_is : (w : Whole) (e : SourceExpr) (op : UnaryOp) (x : SourceExpr) → e.form ≡ (form.Unary op x) → expr w e ≡ form_step w (Source.Unary op (expr w x)) e.line
unary_is w e op x is = ap (λ f. expr w (record { line = e.line; form = f })) (is ∙ sym (form.rolls-Unary op x)) ∙ expr_roll w e.line (Source.Unary op x)

pub cast_is : (w : Whole) (e : SourceExpr) (to : TypeName) (x : SourceExpr) → e.form ≡ (form.Cast to x) → expr w e ≡ form_step w (Source.Cast to (expr w x)) e.line
cast_is w e to x is = ap (λ f. expr w (record { line = e.line; form = f })) (is ∙ sym (form.rolls-Cast to x)) ∙ expr_roll w e.line (Source.Cast to x)

pub index_is : (w : Whole) (e : SourceExpr) (x i : SourceExpr) → e.form ≡ (form.Index x i) → expr w e ≡ form_step w (Source.Index (expr w x) (expr w i)) e.line
index_is w e x i is = ap (λ f. expr w (record { line = e.line; form = f })) (is ∙ sym (form.rolls-Index x i)) ∙ expr_roll w e.line (Source.Index x i)

pub field_is : (w : Whole) (e : SourceExpr) (x : SourceExpr) (f : Ident) → e.form ≡ (form.Field x f) → expr w e ≡ form_step w (Source.Field (expr w x) f) e.line
field_is w e x f is = ap (λ f. expr w (record { line = e.line; form = f })) (is ∙ sym (form.rolls-Field x f)) ∙ expr_roll w e.line (Source.Field x f)

pub arrow_is : (w : Whole) (e : SourceExpr) (x : SourceExpr) (f : Ident) → e.form ≡ (form.Arrow x f) → expr w e ≡ form_step w (Source.Arrow (expr w x) f) e.line
arrow_is w e x f is = ap (λ f. expr w (record { line = e.line; form = f })) (is ∙ sym (form.rolls-Arrow x f)) ∙ expr_roll w e.line (Source.Arrow x f)

pub number_is : (w : Whole) (e : SourceExpr) (k : ℤ) → e.form ≡ (form.Number k) → expr w e ≡ form_step w (Source.Number k) e.line
number_is w e k is = ap (λ f. expr w (record { line = e.line; form = f })) (is ∙ sym (form.rolls-Number k)) ∙ expr_roll w e.line (Source.Number k)

pub null_is : (w : Whole) (e : SourceExpr) → e.form ≡ form.Null → expr w e ≡ form_step w Source.Null e.line
null_is w e is = ap (λ f. expr w (record { line = e.line; form = f })) (is ∙ sym form.rolls-Null) ∙ expr_roll w e.line Source.Null

pub name_is : (w : Whole) (e : SourceExpr) (i : Ident) → e.form ≡ (form.Name i) → expr w e ≡ form_step w (Source.Name i) e.line
name_is w e i is = ap (λ f. expr w (record { line = e.line; form = f })) (is ∙ sym (form.rolls-Name i)) ∙ expr_roll w e.line (Source.Name i)

pub call_is : (w : Whole) (e : SourceExpr) (f : Ident) (xs : List SourceExpr) → e.form ≡ (form.Call f xs) → expr w e ≡ form_step w (Source.Call f (map (expr w) xs)) e.line
call_is w e f xs is = ap (λ f. expr w (record { line = e.line; form = f })) (is ∙ sym (form.rolls-Call f xs)) ∙ expr_roll w e.line (Source.Call f xs)

pub sizeof_is : (w : Whole) (e : SourceExpr) (t : TypeName) → e.form ≡ (form.Sizeof t) → expr w e ≡ form_step w (Source.Sizeof t) e.line
sizeof_is w e t is = ap (λ f. expr w (record { line = e.line; form = f })) (is ∙ sym (form.rolls-Sizeof t)) ∙ expr_roll w e.line (Source.Sizeof t)

step_line : (w : Whole) (y : Source (Line → Reading) Reading) (line : Line) → (form_step w y line).line ≡ line
step_line w (Source.Binary l op r) line = refl
step_line w (Source.Unary op x) line = refl
step_line w (Source.Cast to x) line = refl
step_line w (Source.Index x i) line = refl
step_line w (Source.Field x f) line = refl
step_line w (Source.Arrow x f) line = refl
step_line w (Source.Number k) line = refl
step_line w Source.Null line = refl
step_line w (Source.Name i) line = refl
step_line w (Source.Call f xs) line = refl
step_line w (Source.Sizeof t) line = refl

-- an expression is read on the line of its first token
pub line_is : (w : Whole) (e : SourceExpr) → (expr w e).line ≡ e.line
line_is w e =
    ap (λ f. (expr w (record { line = e.line; form = f })).line) (sym (roll-out-Form e.form))
    ∙ ap (λ r. r.line) (expr_roll w e.line (out-Form e.form)) ∙ step_line w (mapped_form w (out-Form e.form)) e.line
