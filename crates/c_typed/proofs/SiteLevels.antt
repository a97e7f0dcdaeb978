-- The equations of numbering, one level at a time.
use Rattle.std.proofs.Common.{◌≡◌, ℕ, List, [], ◌∷◌, map, refl, ap, sym, ◌∙◌}
use Rattle.dfi_base.specs.declared.numbers.Line.{Line}
use Rattle.c_typed.specs.declared.types.ExprType.{ExprType}
use Rattle.c_typed.specs.declared.expr.Expr.{fold-roll-Expr, Expr}
use Rattle.c_typed.specs.declared.expr.Form.{fold-roll-Form, roll-out-Form, out-Form, Form, roll-Form, map-Form, fold-Form}
use Rattle.c_typed.specs.declared.expr.Form.TheOpen.{Form-F}
use Rattle.c_typed.specs.declared.stmt.Branch.{Branch}
use Rattle.c_typed.specs.declared.stmt.Stmt.{fold-roll-Stmt, roll-out-Stmt, out-Stmt, roll-Stmt, map-Stmt, Stmt}
use Rattle.c_typed.specs.declared.stmt.Stmt.TheOpen.{Stmt-F}
use Rattle.c_typed.specs.Sites.{form_sites, expr_sites, layer_sites, stmt_sites, Sited, ◌<$>◌, number_form, expr, number_layer, stmt}

-- Numbered expressions.
abbrev pub with_form : ExprType → Form → Expr
with_form t f = record { typing = t; form = f }

abbrev pub sited_form : Form → Sited Form
sited_form = fold-Form (Sited Form) (Sited Expr) number_form (λ e. (λ form. record { typing = e.typing; form = form }) <$> e.form)

abbrev pub mapped : Form-F Form Expr → Form-F (Sited Form) (Sited Expr)
mapped x = map-Form Form Expr (Sited Form) (Sited Expr) sited_form expr x

pub form_roll : (x : Form-F Form Expr) → sited_form (roll-Form x) ≡ number_form (mapped x)
unfolding expr
form_roll x = fold-roll-Form (Sited Form) (Sited Expr) number_form (λ e. (λ form. record { typing = e.typing; form = form }) <$> e.form) x

pub expr_is : (e : Expr) → expr e ≡ with_form e.typing <$> sited_form e.form
unfolding expr
expr_is e = fold-roll-Expr (Sited Form) (Sited Expr) number_form (λ e. (λ form. record { typing = e.typing; form = form }) <$> e.form) (record { typing = e.typing; form = e.form })

pub expr_of : (e : Expr) → expr e ≡ with_form e.typing <$> number_form (mapped (out-Form e.form))
expr_of e = expr_is e ∙ ap (λ f. with_form e.typing <$> sited_form f) (sym (roll-out-Form e.form)) ∙ ap (λ p. with_form e.typing <$> p) (form_roll (out-Form e.form))

pub typing_is : (e : Expr) (n : ℕ) → ((expr e).from n).typing ≡ e.typing
typing_is e n = ap (λ p. (p.from n).typing) (expr_is e)

-- The numbers in an expression.
abbrev pub form_list : Form → List ℕ
form_list = fold-Form (List ℕ) (List ℕ) form_sites (λ e. e.form)

abbrev pub listed : Form-F Form Expr → Form-F (List ℕ) (List ℕ)
listed x = map-Form Form Expr (List ℕ) (List ℕ) form_list expr_sites x

pub list_roll : (x : Form-F Form Expr) → form_list (roll-Form x) ≡ form_sites (listed x)
unfolding expr_sites
list_roll x = fold-roll-Form (List ℕ) (List ℕ) form_sites (λ e. e.form) x

pub sites_is : (e : Expr) → expr_sites e ≡ form_list e.form
unfolding expr_sites
sites_is e = fold-roll-Expr (List ℕ) (List ℕ) form_sites (λ e. e.form) (record { typing = e.typing; form = e.form })

-- Statements.
pub stmt_roll : (x : Stmt-F Stmt) → stmt (roll-Stmt x) ≡ number_layer (map-Stmt Stmt (Sited Stmt) stmt x)
unfolding stmt
stmt_roll x = fold-roll-Stmt (Sited Stmt) number_layer x

pub stmt_of : (s : Stmt) → stmt s ≡ number_layer (map-Stmt Stmt (Sited Stmt) stmt (out-Stmt s))
stmt_of s = ap stmt (sym (roll-out-Stmt s)) ∙ stmt_roll (out-Stmt s)

pub layer_roll : (x : Stmt-F Stmt) → stmt_sites (roll-Stmt x) ≡ layer_sites (map-Stmt Stmt (List ℕ) stmt_sites x)
unfolding stmt_sites
layer_roll x = fold-roll-Stmt (List ℕ) layer_sites x

-- The branches of a `par` part by part.
abbrev pub with_body : {A : Type 0} → (Stmt → A) → Branch Stmt → Branch A
with_body f b = record { body = map f b.body; close = b.close }

abbrev pub branches_of : {A : Type 0} → Stmt-F A → List (Branch A)
branches_of (Stmt-F.Par line bs) = bs
branches_of _ = []

pub branches_mapped : {A : Type 0} (f : Stmt → A) (line : Line) (bs : List (Branch Stmt)) → branches_of (map-Stmt Stmt A f (Stmt-F.Par line bs)) ≡ map (with_body f) bs
branches_mapped f line [] = refl
branches_mapped f line (b ∷ bs) = ap (λ ys. with_body f b ∷ ys) (branches_mapped f line bs)
