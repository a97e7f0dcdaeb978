-- How large an expression is: larger than each part.
use Rattle.std.proofs.Common.{◌≡◌, ℕ, zero, suc, ◌+◌, ◌<◌, ◌≤◌, List, [], ◌∷◌, map, Option, Some, None, get_or, length, refl, ap, sym, ◌∙◌, arith}
use Rattle.c_ast.specs.declared.expr.BinaryOp.{BinaryOp}
use Rattle.c_typed.specs.declared.types.ObjectType.{ObjectType}
use Rattle.c_typed.specs.declared.types.ExprType.{ExprType}
use Rattle.c_typed.specs.declared.expr.PrefixOp.{PrefixOp}
use Rattle.c_typed.specs.declared.expr.Expr.{Expr, fold-Expr, fold-roll-Expr}
use Rattle.c_typed.specs.declared.expr.Form.{Form, roll-Form, map-Form, fold-Form, fold-roll-Form}
use Rattle.c_typed.specs.declared.expr.Form.TheOpen.{Form-F}
use Rattle.c_typed.specs.declared.expr.Form.TheVariants as form

abbrev pub count_in : Option ℕ → ℕ
count_in None = 0
count_in (Some n) = n

abbrev pub all_in : List ℕ → ℕ
all_in [] = 0
all_in (n ∷ ns) = n + all_in ns

abbrev parts_in : Form-F ℕ ℕ → ℕ
parts_in (Form-F.Deref e) = e
parts_in (Form-F.Index e i) = e + i
parts_in (Form-F.Field e k) = e
parts_in (Form-F.Arrow e k) = e
parts_in (Form-F.Read e) = e
parts_in (Form-F.Decay e) = e
parts_in (Form-F.Address e) = e
parts_in (Form-F.Prefix op e) = e
parts_in (Form-F.Binary e op f) = e + f
parts_in (Form-F.Call k es) = all_in es
parts_in (Form-F.New site item count) = count_in count
parts_in _ = 0

abbrev weigh : Form-F ℕ ℕ → ℕ
weigh x = suc (parts_in x)

unfoldable pub weight : Expr → ℕ
weight = fold-Expr ℕ ℕ weigh (λ e. e.form)

abbrev pub total : List Expr → ℕ
total [] = 0
total (e ∷ es) = weight e + total es

abbrev form_weight : Form → ℕ
form_weight = fold-Form ℕ ℕ weigh (λ e. e.form)

weight_roll : (t : ExprType) (x : Form-F Form Expr) → weight (record { typing = t; form = roll-Form x }) ≡ weigh (map-Form Form Expr ℕ ℕ form_weight weight x)
unfolding weight
weight_roll t x = fold-roll-Expr ℕ ℕ weigh (λ e. e.form) (record { typing = t; form = roll-Form x }) ∙ fold-roll-Form ℕ ℕ weigh (λ e. e.form) x

of_form : (e : Expr) (x : Form-F Form Expr) (f : Form) → e.form ≡ f → f ≡ roll-Form x → weight e ≡ weigh (map-Form Form Expr ℕ ℕ form_weight weight x)
of_form e x f is rolled = ap (λ g. weight (record { typing = e.typing; form = g })) (is ∙ rolled) ∙ weight_roll e.typing x

all_same : (es : List Expr) → all_in (map weight es) ≡ total es
all_same [] = refl
all_same (e ∷ es) = ap (λ n. weight e + n) (all_same es)

pub total_at : (es : List Expr) (i : ℕ) (e : Expr) → i < length es → e ≡ get_or es i e → weight e ≤ total es
total_at [] i e less is = absurd (omega (arith, less))
total_at (x ∷ es) zero e less is = (let same = ap weight is in omega (arith, same))
total_at (x ∷ es) (suc i) e less is = (let rest = total_at es i e (omega (arith, less)) is in omega (arith, rest))

module _ (e : Expr) where
  pub deref_weight : (p : Expr) → e.form ≡ form.Deref p → weight e ≡ suc (weight p)
  deref_weight p is = of_form e (Form-F.Deref p) _ is (sym (form.rolls-Deref p))

  pub index_weight : (p i : Expr) → e.form ≡ form.Index p i → weight e ≡ suc (weight p + weight i)
  index_weight p i is = of_form e (Form-F.Index p i) _ is (sym (form.rolls-Index p i))

  pub field_weight : (x : Expr) (k : ℕ) → e.form ≡ form.Field x k → weight e ≡ suc (weight x)
  field_weight x k is = of_form e (Form-F.Field x k) _ is (sym (form.rolls-Field x k))

  pub arrow_weight : (p : Expr) (k : ℕ) → e.form ≡ form.Arrow p k → weight e ≡ suc (weight p)
  arrow_weight p k is = of_form e (Form-F.Arrow p k) _ is (sym (form.rolls-Arrow p k))

  pub read_weight : (x : Expr) → e.form ≡ form.Read x → weight e ≡ suc (weight x)
  read_weight x is = of_form e (Form-F.Read x) _ is (sym (form.rolls-Read x))

  pub decay_weight : (x : Expr) → e.form ≡ form.Decay x → weight e ≡ suc (weight x)
  decay_weight x is = of_form e (Form-F.Decay x) _ is (sym (form.rolls-Decay x))

  pub address_weight : (x : Expr) → e.form ≡ form.Address x → weight e ≡ suc (weight x)
  address_weight x is = of_form e (Form-F.Address x) _ is (sym (form.rolls-Address x))

  pub prefix_weight : (op : PrefixOp) (x : Expr) → e.form ≡ form.Prefix op x → weight e ≡ suc (weight x)
  prefix_weight op x is = of_form e (Form-F.Prefix op x) _ is (sym (form.rolls-Prefix op x))

  pub binary_weight : (l : Expr) (op : BinaryOp) (r : Expr) → e.form ≡ form.Binary l op r → weight e ≡ suc (weight l + weight r)
  binary_weight l op r is = of_form e (Form-F.Binary l op r) _ is (sym (form.rolls-Binary l op r))

  pub call_weight : (k : ℕ) (es : List Expr) → e.form ≡ form.Call k es → weight e ≡ suc (total es)
  call_weight k es is = of_form e (Form-F.Call k es) _ is (sym (form.rolls-Call k es)) ∙ ap suc (all_same es)

  pub new_weight : (n : ℕ) (t : ObjectType) (count : Option Expr) (x : Expr) → e.form ≡ form.New n t count → count ≡ Some x → weight e ≡ suc (weight x)
  new_weight n t None x is some = cc
  new_weight n t (Some y) x is some = of_form e (Form-F.New n t (Some y)) _ is (sym (form.rolls-New n t (Some y))) ∙ ap suc (let same : y ≡ x = cc in ap weight same)
