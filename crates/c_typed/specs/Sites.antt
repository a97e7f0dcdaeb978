-- The heap sites of a typed program in the order of its code, and their numbers from 0. A count stands before its site, and in a `for`
-- the body stands before the step.
use Rattle.std.specs.Prelude.{ℕ, suc, ◌+◌, List, [], ◌∷◌, ◌++◌, map, Option, Some, None}
use Rattle.c_typed.specs.declared.expr.Expr.{fold-Expr, Expr}
use Rattle.c_typed.specs.declared.expr.Form.{Form, roll-Form}
use Rattle.c_typed.specs.declared.expr.Form.TheOpen.{Form-F}
use Rattle.c_typed.specs.declared.stmt.Branch.{Branch}
use Rattle.c_typed.specs.declared.stmt.Condition.{Condition}
use Rattle.c_typed.specs.declared.stmt.Stmt.{fold-Stmt, Stmt, roll-Stmt}
use Rattle.c_typed.specs.declared.stmt.Stmt.TheOpen.{Stmt-F}
use Rattle.c_typed.specs.declared.program.Function.{Function}
use Rattle.c_typed.specs.Decls.{joined_lists}
use Rattle.c_typed.specs.Typed.{Typed}

-- The numbers that stand at the sites.
abbrev pub if_there : {A : Type 0} → (A → List ℕ) → Option A → List ℕ
if_there f None = []
if_there f (Some a) = f a

abbrev pub form_sites : Form-F (List ℕ) (List ℕ) → List ℕ
form_sites (Form-F.Deref e) = e
form_sites (Form-F.Index e i) = e ++ i
form_sites (Form-F.Field e k) = e
form_sites (Form-F.Arrow e k) = e
form_sites (Form-F.Read e) = e
form_sites (Form-F.Decay e) = e
form_sites (Form-F.Address e) = e
form_sites (Form-F.Prefix op e) = e
form_sites (Form-F.Binary e op f) = e ++ f
form_sites (Form-F.Call k es) = joined_lists es
form_sites (Form-F.New site item count) = if_there (λ e. e) count ++ site ∷ []
form_sites _ = []

unfoldable pub expr_sites : Expr → List ℕ
expr_sites = fold-Expr (List ℕ) (List ℕ) form_sites (λ e. e.form)

abbrev pub condition_sites : Condition → List ℕ
condition_sites d = expr_sites d.value

abbrev pub branch_sites : Branch (List ℕ) → List ℕ
branch_sites b = joined_lists b.body

abbrev pub layer_sites : Stmt-F (List ℕ) → List ℕ
layer_sites (Stmt-F.Block ss) = joined_lists ss
layer_sites (Stmt-F.Assign line target op v) = expr_sites target ++ expr_sites v
layer_sites (Stmt-F.Increment line e) = expr_sites e
layer_sites (Stmt-F.Decrement line e) = expr_sites e
layer_sites (Stmt-F.Call line e) = expr_sites e
layer_sites (Stmt-F.PutInt line e) = expr_sites e
layer_sites (Stmt-F.Free line e) = expr_sites e
layer_sites (Stmt-F.Return line v) = if_there expr_sites v
layer_sites (Stmt-F.Break line) = []
layer_sites (Stmt-F.Continue line) = []
layer_sites (Stmt-F.If line d first second) = condition_sites d ++ first ++ if_there (λ s. s) second
layer_sites (Stmt-F.While line d body) = condition_sites d ++ body
layer_sites (Stmt-F.For line start d step body) = start ++ if_there condition_sites d ++ body ++ step
layer_sites (Stmt-F.Par line bs) = joined_lists (map branch_sites bs)

unfoldable pub stmt_sites : Stmt → List ℕ
stmt_sites = fold-Stmt (List ℕ) layer_sites

abbrev pub function_sites : Function → List ℕ
function_sites f = joined_lists (map stmt_sites f.body)

abbrev pub sites : Typed → List ℕ
sites t = joined_lists (map function_sites t.functions)

-- A part to be numbered: how many sites it has, and itself with its sites numbered from here on.
pub record Sited (A : Type 0) : Type 0 where
  pub count : ℕ
  pub from : ℕ → A

abbrev pub given : {A : Type 0} → A → Sited A
given a = record { count = 0; from = λ n. a }

infixr 8 ◌<$>◌
abbrev pub ◌<$>◌ : {A B : Type 0} → (A → B) → Sited A → Sited B
f <$> p = record { count = p.count; from = λ n. f (p.from n) }

-- one part behind another
abbrev pub joined : {A B C : Type 0} → (A → B → C) → Sited A → Sited B → Sited C
joined f p q = record { count = p.count + q.count; from = λ n. f (p.from n) (q.from (n + p.count)) }

infixl 9 ◌⊗◌
abbrev pub ◌⊗◌ : {A B : Type 0} → Sited A → Sited B → Sited (A × B)
p ⊗ q = joined (λ a b. (a, b)) p q

abbrev pub in_turn : {A : Type 0} → List (Sited A) → Sited (List A)
in_turn [] = given []
in_turn (p ∷ ps) = joined (λ a rest. a ∷ rest) p (in_turn ps)

abbrev pub there : {A : Type 0} → Option (Sited A) → Sited (Option A)
there None = given None
there (Some p) = (λ a. Some a) <$> p

-- Expressions.
abbrev pub number_form : Form-F (Sited Form) (Sited Expr) → Sited Form
number_form (Form-F.Global k) = given (roll-Form (Form-F.Global k))
number_form (Form-F.Local k) = given (roll-Form (Form-F.Local k))
number_form (Form-F.Deref e) = (λ e. roll-Form (Form-F.Deref e)) <$> e
number_form (Form-F.Index e i) = joined (λ e i. roll-Form (Form-F.Index e i)) e i
number_form (Form-F.Field e k) = (λ e. roll-Form (Form-F.Field e k)) <$> e
number_form (Form-F.Arrow e k) = (λ e. roll-Form (Form-F.Arrow e k)) <$> e
number_form (Form-F.Number k) = given (roll-Form (Form-F.Number k))
number_form Form-F.Null = given (roll-Form Form-F.Null)
number_form (Form-F.Read e) = (λ e. roll-Form (Form-F.Read e)) <$> e
number_form (Form-F.Decay e) = (λ e. roll-Form (Form-F.Decay e)) <$> e
number_form (Form-F.Address e) = (λ e. roll-Form (Form-F.Address e)) <$> e
number_form (Form-F.Prefix op e) = (λ e. roll-Form (Form-F.Prefix op e)) <$> e
number_form (Form-F.Binary e op f) = joined (λ e f. roll-Form (Form-F.Binary e op f)) e f
number_form (Form-F.Call k es) = (λ es. roll-Form (Form-F.Call k es)) <$> in_turn es
number_form Form-F.GetInt = given (roll-Form Form-F.GetInt)
number_form Form-F.Left = given (roll-Form Form-F.Left)
number_form (Form-F.New site item o) =
    let p = there o in
    record { count = suc p.count; from = λ n. roll-Form (Form-F.New (n + p.count) item (p.from n)) }

unfoldable pub expr : Expr → Sited Expr
expr = fold-Expr (Sited Form) (Sited Expr) number_form (λ e. (λ form. record { typing = e.typing; form = form }) <$> e.form)

abbrev pub expr_there : Option Expr → Sited (Option Expr)
expr_there None = given None
expr_there (Some e) = (λ e. Some e) <$> expr e

-- Statements.
abbrev pub condition : Condition → Sited Condition
condition d = (λ e. record { line = d.line; value = e }) <$> expr d.value

abbrev pub condition_there : Option Condition → Sited (Option Condition)
condition_there None = given None
condition_there (Some d) = (λ d. Some d) <$> condition d

abbrev pub branch : Branch (Sited Stmt) → Sited (Branch Stmt)
branch b = (λ ss. record { body = ss; close = b.close }) <$> in_turn b.body

abbrev pub number_layer : Stmt-F (Sited Stmt) → Sited Stmt
number_layer (Stmt-F.Block ss) = (λ ss. roll-Stmt (Stmt-F.Block ss)) <$> in_turn ss
number_layer (Stmt-F.Assign line target op v) = joined (λ e f. roll-Stmt (Stmt-F.Assign line e op f)) (expr target) (expr v)
number_layer (Stmt-F.Increment line e) = (λ e. roll-Stmt (Stmt-F.Increment line e)) <$> expr e
number_layer (Stmt-F.Decrement line e) = (λ e. roll-Stmt (Stmt-F.Decrement line e)) <$> expr e
number_layer (Stmt-F.Call line e) = (λ e. roll-Stmt (Stmt-F.Call line e)) <$> expr e
number_layer (Stmt-F.PutInt line e) = (λ e. roll-Stmt (Stmt-F.PutInt line e)) <$> expr e
number_layer (Stmt-F.Free line e) = (λ e. roll-Stmt (Stmt-F.Free line e)) <$> expr e
number_layer (Stmt-F.Return line v) = (λ v. roll-Stmt (Stmt-F.Return line v)) <$> expr_there v
number_layer (Stmt-F.Break line) = given (roll-Stmt (Stmt-F.Break line))
number_layer (Stmt-F.Continue line) = given (roll-Stmt (Stmt-F.Continue line))
number_layer (Stmt-F.If line d first second) = (λ s. roll-Stmt (Stmt-F.If line s.0.0 s.0.1 s.1)) <$> (condition d ⊗ first ⊗ there second)
number_layer (Stmt-F.While line d body) = joined (λ d s. roll-Stmt (Stmt-F.While line d s)) (condition d) body
number_layer (Stmt-F.For line start d step body) =
    (λ s. roll-Stmt (Stmt-F.For line s.0.0.0 s.0.0.1 s.1 s.0.1)) <$> (start ⊗ condition_there d ⊗ body ⊗ step)
number_layer (Stmt-F.Par line bs) = (λ bs. roll-Stmt (Stmt-F.Par line bs)) <$> in_turn (map branch bs)

unfoldable pub stmt : Stmt → Sited Stmt
stmt = fold-Stmt (Sited Stmt) number_layer

-- Functions.
abbrev pub with_body : Function → List Stmt → Function
with_body f body = record {
  line = f.line;
  result = f.result;
  parameters = f.parameters;
  variables = f.variables;
  body = body;
  close = f.close;
}

abbrev pub function : Function → Sited Function
function f = (λ body. with_body f body) <$> in_turn (map stmt f.body)

abbrev pub numbered : List Function → List Function
numbered fs = (in_turn (map function fs)).from 0
