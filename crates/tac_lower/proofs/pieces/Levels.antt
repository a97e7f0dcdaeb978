-- The equations of `expr` and `stmt`, one level at a time.
use Rattle.std.proofs.Common.{◌≡◌, ℕ, ℤ, List, [], ◌∷◌, map, Option, Some, None, ap, sym, ◌∙◌}
use Rattle.c_ast.specs.declared.expr.BinaryOp.{BinaryOp}
use Rattle.c_typed.specs.declared.types.ObjectType.{ObjectType}
use Rattle.c_typed.specs.declared.expr.PrefixOp.{PrefixOp}
use Rattle.c_typed.specs.declared.expr.Form.TheVariants as form
use Rattle.c_typed.specs.declared.types.ExprType.{ExprType}
use Rattle.c_typed.specs.declared.expr.Expr.{fold-roll-Expr, Expr}
use Rattle.c_typed.specs.declared.expr.Form.{fold-roll-Form, Form, roll-Form, map-Form, fold-Form}
use Rattle.c_typed.specs.declared.expr.Form.TheOpen.{Form-F}
use Rattle.c_typed.specs.declared.stmt.Branch.{Branch}
use Rattle.c_typed.specs.declared.stmt.Stmt.{fold-roll-Stmt, roll-Stmt, map-Stmt, Stmt}
use Rattle.c_typed.specs.declared.stmt.Stmt.TheOpen.{Stmt-F}
use Rattle.tac_lower.specs.Parts.{Part}
use Rattle.tac_lower.specs.Values.{Yield, Lowered, form_step, expr}
use Rattle.tac_lower.specs.Stmts.{Around, stmt_step, stmt}

abbrev pub with_typing : (e : Expr) → (ℕ → Yield) → Lowered
with_typing e y = record { typing = e.typing; yield = y }

abbrev pub form_yield : List ℕ → Form → ℕ → Yield
form_yield sizes = fold-Form (ℕ → Yield) Lowered (form_step sizes) (λ e. record { typing = e.typing; yield = e.form })

abbrev pub mapped : List ℕ → Form-F Form Expr → Form-F (ℕ → Yield) Lowered
mapped sizes x = map-Form Form Expr (ℕ → Yield) Lowered (form_yield sizes) (expr sizes) x

pub expr_roll : (sizes : List ℕ) (t : ExprType) (x : Form-F Form Expr) → expr sizes (record { typing = t; form = roll-Form x }) ≡ record { typing = t; yield = form_step sizes (mapped sizes x) }
unfolding expr
expr_roll sizes t x =
    fold-roll-Expr (ℕ → Yield) Lowered (form_step sizes) (λ e. record { typing = e.typing; yield = e.form }) (record { typing = t; form = roll-Form x })
    ∙ ap (λ y. record { typing = t; yield = y }) (fold-roll-Form (ℕ → Yield) Lowered (form_step sizes) (λ e. record { typing = e.typing; yield = e.form }) x)

pub stmt_roll : (c : Around) (x : Stmt-F Stmt) → stmt c (roll-Stmt x) ≡ stmt_step c (map-Stmt Stmt (Part ℕ) (stmt c) x)
unfolding stmt
stmt_roll c x = fold-roll-Stmt (Part ℕ) (stmt_step c) x

pub typing_is : (sizes : List ℕ) (e : Expr) → (expr sizes e).typing ≡ e.typing
unfolding expr
typing_is sizes e = ap (λ y. y.typing) (fold-roll-Expr (ℕ → Yield) Lowered (form_step sizes) (λ e. record { typing = e.typing; yield = e.form }) (record { typing = e.typing; form = e.form }))

-- The statements in a statement.
abbrev pub items_of : {A : Type 0} → Stmt-F A → List A
items_of (Stmt-F.Block ss) = ss
items_of _ = []

abbrev pub branches_of : {A : Type 0} → Stmt-F A → List (Branch A)
branches_of (Stmt-F.Par n bs) = bs
branches_of _ = []

abbrev pub first_body : {A : Type 0} → List (Branch A) → List A
first_body [] = []
first_body (b ∷ bs) = b.body

-- An expression of a form that is known.
of_form : (sizes : List ℕ) (e : Expr) (x : Form-F Form Expr) (f : Form) → e.form ≡ f → f ≡ roll-Form x → (expr sizes e).yield ≡ form_step sizes (mapped sizes x)
of_form sizes e x f is rolled =
    ap (λ g. (expr sizes (record { typing = e.typing; form = g })).yield) (is ∙ rolled) ∙ ap (λ y. y.yield) (expr_roll sizes e.typing x)

abbrev pub lowered_option : List ℕ → Option Expr → Option Lowered
lowered_option sizes None = None
lowered_option sizes (Some x) = Some (expr sizes x)

pub global_is : (sizes : List ℕ) (e : Expr) (n : ℕ) → e.form ≡ (form.Global n) → (expr sizes e).yield ≡ form_step sizes (Form-F.Global n)
global_is sizes e n is = of_form sizes e (Form-F.Global n) _ is (sym (form.rolls-Global n))

pub local_is : (sizes : List ℕ) (e : Expr) (n : ℕ) → e.form ≡ (form.Local n) → (expr sizes e).yield ≡ form_step sizes (Form-F.Local n)
local_is sizes e n is = of_form sizes e (Form-F.Local n) _ is (sym (form.rolls-Local n))

pub deref_is : (sizes : List ℕ) (e : Expr) (p : Expr) → e.form ≡ (form.Deref p) → (expr sizes e).yield ≡ form_step sizes (Form-F.Deref (expr sizes p))
deref_is sizes e p is = of_form sizes e (Form-F.Deref p) _ is (sym (form.rolls-Deref p))

pub index_is : (sizes : List ℕ) (e : Expr) (p : Expr) (i : Expr) → e.form ≡ (form.Index p i) → (expr sizes e).yield ≡ form_step sizes (Form-F.Index (expr sizes p) (expr sizes i))
index_is sizes e p i is = of_form sizes e (Form-F.Index p i) _ is (sym (form.rolls-Index p i))

pub field_is : (sizes : List ℕ) (e : Expr) (x : Expr) (k : ℕ) → e.form ≡ (form.Field x k) → (expr sizes e).yield ≡ form_step sizes (Form-F.Field (expr sizes x) k)
field_is sizes e x k is = of_form sizes e (Form-F.Field x k) _ is (sym (form.rolls-Field x k))

pub arrow_is : (sizes : List ℕ) (e : Expr) (p : Expr) (k : ℕ) → e.form ≡ (form.Arrow p k) → (expr sizes e).yield ≡ form_step sizes (Form-F.Arrow (expr sizes p) k)
arrow_is sizes e p k is = of_form sizes e (Form-F.Arrow p k) _ is (sym (form.rolls-Arrow p k))

pub number_is : (sizes : List ℕ) (e : Expr) (k : ℤ) → e.form ≡ (form.Number k) → (expr sizes e).yield ≡ form_step sizes (Form-F.Number k)
number_is sizes e k is = of_form sizes e (Form-F.Number k) _ is (sym (form.rolls-Number k))

pub null_is : (sizes : List ℕ) (e : Expr) → e.form ≡ form.Null → (expr sizes e).yield ≡ form_step sizes Form-F.Null
null_is sizes e is = of_form sizes e Form-F.Null _ is (sym (form.rolls-Null))

pub read_is : (sizes : List ℕ) (e : Expr) (x : Expr) → e.form ≡ (form.Read x) → (expr sizes e).yield ≡ form_step sizes (Form-F.Read (expr sizes x))
read_is sizes e x is = of_form sizes e (Form-F.Read x) _ is (sym (form.rolls-Read x))

pub decay_is : (sizes : List ℕ) (e : Expr) (x : Expr) → e.form ≡ (form.Decay x) → (expr sizes e).yield ≡ form_step sizes (Form-F.Decay (expr sizes x))
decay_is sizes e x is = of_form sizes e (Form-F.Decay x) _ is (sym (form.rolls-Decay x))

pub address_is : (sizes : List ℕ) (e : Expr) (x : Expr) → e.form ≡ (form.Address x) → (expr sizes e).yield ≡ form_step sizes (Form-F.Address (expr sizes x))
address_is sizes e x is = of_form sizes e (Form-F.Address x) _ is (sym (form.rolls-Address x))

pub prefix_is : (sizes : List ℕ) (e : Expr) (op : PrefixOp) (x : Expr) → e.form ≡ (form.Prefix op x) → (expr sizes e).yield ≡ form_step sizes (Form-F.Prefix op (expr sizes x))
prefix_is sizes e op x is = of_form sizes e (Form-F.Prefix op x) _ is (sym (form.rolls-Prefix op x))

pub binary_is : (sizes : List ℕ) (e : Expr) (l : Expr) (op : BinaryOp) (r : Expr) → e.form ≡ (form.Binary l op r) → (expr sizes e).yield ≡ form_step sizes (Form-F.Binary (expr sizes l) op (expr sizes r))
binary_is sizes e l op r is = of_form sizes e (Form-F.Binary l op r) _ is (sym (form.rolls-Binary l op r))

pub call_is : (sizes : List ℕ) (e : Expr) (f : ℕ) (xs : List Expr) → e.form ≡ (form.Call f xs) → (expr sizes e).yield ≡ form_step sizes (Form-F.Call f (map (expr sizes) xs))
call_is sizes e f xs is = of_form sizes e (Form-F.Call f xs) _ is (sym (form.rolls-Call f xs))

pub getint_is : (sizes : List ℕ) (e : Expr) → e.form ≡ form.GetInt → (expr sizes e).yield ≡ form_step sizes Form-F.GetInt
getint_is sizes e is = of_form sizes e Form-F.GetInt _ is (sym (form.rolls-GetInt))

pub left_is : (sizes : List ℕ) (e : Expr) → e.form ≡ form.Left → (expr sizes e).yield ≡ form_step sizes Form-F.Left
left_is sizes e is = of_form sizes e Form-F.Left _ is (sym (form.rolls-Left))

pub new_is : (sizes : List ℕ) (e : Expr) (n : ℕ) (t : ObjectType) (x : Option Expr) → e.form ≡ (form.New n t x) → (expr sizes e).yield ≡ form_step sizes (Form-F.New n t (lowered_option sizes x))
new_is sizes e n t None is = of_form sizes e (Form-F.New n t None) _ is (sym (form.rolls-New n t None))
new_is sizes e n t (Some x) is = of_form sizes e (Form-F.New n t (Some x)) _ is (sym (form.rolls-New n t (Some x)))
