-- The equations of `expr`, one level at a time.
use Rattle.std.proofs.Common.{◌≡◌, ℕ, ℤ, List, map, Option, Some, None, option_map, ap, sym, ◌∙◌}
use Rattle.c_ast.specs.declared.expr.BinaryOp.{BinaryOp}
use Rattle.c_typed.specs.declared.types.ObjectType.{ObjectType}
use Rattle.c_typed.specs.declared.types.ExprType.{ExprType}
use Rattle.c_typed.specs.declared.expr.PrefixOp.{PrefixOp}
use Rattle.c_typed.specs.declared.expr.Form.TheVariants as form
use Rattle.c_typed.specs.declared.expr.Expr.{fold-roll-Expr, Expr}
use Rattle.c_typed.specs.declared.expr.Form.{fold-roll-Form, Form, roll-Form, map-Form, fold-Form}
use Rattle.c_typed.specs.declared.expr.Form.TheOpen.{Form-F}
use Rattle.src_law.specs.Acts.{a_value, Act}
use Rattle.src_law.specs.Exprs.{Around, Meant, form as level, expr}

abbrev form_act : Around → Form → Act a_value
form_act c = fold-Form (Act a_value) Meant (level c) (λ e. record { typing = e.typing; act = e.form })

abbrev mapped : Around → Form-F Form Expr → Form-F (Act a_value) Meant
mapped c x = map-Form Form Expr (Act a_value) Meant (form_act c) (expr c) x

expr_roll : (c : Around) (t : ExprType) (x : Form-F Form Expr) → expr c (record { typing = t; form = roll-Form x }) ≡ record { typing = t; act = level c (mapped c x) }
unfolding expr
expr_roll c t x =
    fold-roll-Expr (Act a_value) Meant (level c) (λ e. record { typing = e.typing; act = e.form }) (record { typing = t; form = roll-Form x })
    ∙ ap (λ y. record { typing = t; act = y }) (fold-roll-Form (Act a_value) Meant (level c) (λ e. record { typing = e.typing; act = e.form }) x)

pub typing_is : (c : Around) (e : Expr) → (expr c e).typing ≡ e.typing
unfolding expr
typing_is c e = ap (λ y. y.typing) (fold-roll-Expr (Act a_value) Meant (level c) (λ e. record { typing = e.typing; act = e.form }) (record { typing = e.typing; form = e.form }))

-- An expression of a form that is known.
of_form : (c : Around) (e : Expr) (x : Form-F Form Expr) (f : Form) → e.form ≡ f → f ≡ roll-Form x → (expr c e).act ≡ level c (mapped c x)
of_form c e x f is rolled =
    ap (λ g. (expr c (record { typing = e.typing; form = g })).act) (is ∙ rolled) ∙ ap (λ y. y.act) (expr_roll c e.typing x)

pub global_is : (c : Around) (e : Expr) (n : ℕ) → e.form ≡ (form.Global n) → (expr c e).act ≡ level c (Form-F.Global n)
global_is c e n is = of_form c e (Form-F.Global n) _ is (sym (form.rolls-Global n))

pub local_is : (c : Around) (e : Expr) (n : ℕ) → e.form ≡ (form.Local n) → (expr c e).act ≡ level c (Form-F.Local n)
local_is c e n is = of_form c e (Form-F.Local n) _ is (sym (form.rolls-Local n))

pub deref_is : (c : Around) (e : Expr) (p : Expr) → e.form ≡ (form.Deref p) → (expr c e).act ≡ level c (Form-F.Deref (expr c p))
deref_is c e p is = of_form c e (Form-F.Deref p) _ is (sym (form.rolls-Deref p))

pub index_is : (c : Around) (e : Expr) (p : Expr) (i : Expr) → e.form ≡ (form.Index p i) → (expr c e).act ≡ level c (Form-F.Index (expr c p) (expr c i))
index_is c e p i is = of_form c e (Form-F.Index p i) _ is (sym (form.rolls-Index p i))

pub field_is : (c : Around) (e : Expr) (x : Expr) (k : ℕ) → e.form ≡ (form.Field x k) → (expr c e).act ≡ level c (Form-F.Field (expr c x) k)
field_is c e x k is = of_form c e (Form-F.Field x k) _ is (sym (form.rolls-Field x k))

pub arrow_is : (c : Around) (e : Expr) (p : Expr) (k : ℕ) → e.form ≡ (form.Arrow p k) → (expr c e).act ≡ level c (Form-F.Arrow (expr c p) k)
arrow_is c e p k is = of_form c e (Form-F.Arrow p k) _ is (sym (form.rolls-Arrow p k))

pub number_is : (c : Around) (e : Expr) (k : ℤ) → e.form ≡ (form.Number k) → (expr c e).act ≡ level c (Form-F.Number k)
number_is c e k is = of_form c e (Form-F.Number k) _ is (sym (form.rolls-Number k))

pub null_is : (c : Around) (e : Expr) → e.form ≡ form.Null → (expr c e).act ≡ level c Form-F.Null
null_is c e is = of_form c e Form-F.Null _ is (sym (form.rolls-Null))

pub read_is : (c : Around) (e : Expr) (x : Expr) → e.form ≡ (form.Read x) → (expr c e).act ≡ level c (Form-F.Read (expr c x))
read_is c e x is = of_form c e (Form-F.Read x) _ is (sym (form.rolls-Read x))

pub decay_is : (c : Around) (e : Expr) (x : Expr) → e.form ≡ (form.Decay x) → (expr c e).act ≡ level c (Form-F.Decay (expr c x))
decay_is c e x is = of_form c e (Form-F.Decay x) _ is (sym (form.rolls-Decay x))

pub address_is : (c : Around) (e : Expr) (x : Expr) → e.form ≡ (form.Address x) → (expr c e).act ≡ level c (Form-F.Address (expr c x))
address_is c e x is = of_form c e (Form-F.Address x) _ is (sym (form.rolls-Address x))

pub prefix_is : (c : Around) (e : Expr) (op : PrefixOp) (x : Expr) → e.form ≡ (form.Prefix op x) → (expr c e).act ≡ level c (Form-F.Prefix op (expr c x))
prefix_is c e op x is = of_form c e (Form-F.Prefix op x) _ is (sym (form.rolls-Prefix op x))

pub binary_is : (c : Around) (e : Expr) (l : Expr) (op : BinaryOp) (r : Expr) → e.form ≡ (form.Binary l op r) → (expr c e).act ≡ level c (Form-F.Binary (expr c l) op (expr c r))
binary_is c e l op r is = of_form c e (Form-F.Binary l op r) _ is (sym (form.rolls-Binary l op r))

pub call_is : (c : Around) (e : Expr) (f : ℕ) (xs : List Expr) → e.form ≡ (form.Call f xs) → (expr c e).act ≡ level c (Form-F.Call f (map (expr c) xs))
call_is c e f xs is = of_form c e (Form-F.Call f xs) _ is (sym (form.rolls-Call f xs))

pub getint_is : (c : Around) (e : Expr) → e.form ≡ form.GetInt → (expr c e).act ≡ level c Form-F.GetInt
getint_is c e is = of_form c e Form-F.GetInt _ is (sym (form.rolls-GetInt))

pub left_is : (c : Around) (e : Expr) → e.form ≡ form.Left → (expr c e).act ≡ level c Form-F.Left
left_is c e is = of_form c e Form-F.Left _ is (sym (form.rolls-Left))

pub new_is : (c : Around) (e : Expr) (n : ℕ) (t : ObjectType) (x : Option Expr) → e.form ≡ (form.New n t x) → (expr c e).act ≡ level c (Form-F.New n t (option_map (expr c) x))
new_is c e n t None is = of_form c e (Form-F.New n t None) _ is (sym (form.rolls-New n t None))
new_is c e n t (Some x) is = of_form c e (Form-F.New n t (Some x)) _ is (sym (form.rolls-New n t (Some x)))
