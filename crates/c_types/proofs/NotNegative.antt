-- The numbers of a tree are not negative, so those behind the sign of what a global starts with are not.
use Rattle.std.proofs.Common.{◌≡◌, ℕ, List, [], ◌∷◌, ◌++◌, Option, Some, None, ap, sym, ◌∙◌, subst}
use Rattle.std.specs.List.{All}
use Rattle.std.proofs.lemmas.List.Elements.{All-nil, All-cons, All-head, All-tail}
use Rattle.c_ast.specs.declared.decl.DeclItem.{DeclItem}
use Rattle.c_ast.specs.declared.expr.UnaryOp.{UnaryOp}
use Rattle.c_ast.specs.declared.expr.Expr.{fold-roll-Expr, Expr as SourceExpr}
use Rattle.c_ast.specs.declared.expr.Form.{fold-roll-Form, roll-out-Form, out-Form, Form as SourceForm, roll-Form, map-Form, fold-Form}
use Rattle.c_ast.specs.declared.expr.Form.TheOpen.{Form-F as Source}
use Rattle.c_ast.specs.declared.program.Item.{Item}
use Rattle.c_ast.specs.Leaves.{Leaf, number, Leaves, of_all, of_option, of_base, of_declarator, of_decl_item, of_item, expr_step, of_expr, leaves_of}
use Rattle.c_ast.specs.Ast.{IsWritten}
use Rattle.c_typed.specs.Programs.{number_of}
use Rattle.c_types.specs.tools.Negatable.{NotNegative, Negatable, NegatableValue, NegatableStarts}

left_of : {X : Type 0} (P : X → Type 0) (xs ys : List X) → All P (xs ++ ys) → All P xs
left_of P [] ys all = All-nil P
left_of P (x ∷ xs) ys all = All-cons P x xs (All-head P x (xs ++ ys) all) (left_of P xs ys (All-tail P x (xs ++ ys) all))

right_of : {X : Type 0} (P : X → Type 0) (xs ys : List X) → All P (xs ++ ys) → All P ys
right_of P [] ys all = all
right_of P (x ∷ xs) ys all = right_of P xs ys (All-tail P x (xs ++ ys) all)

each_of : {A : Type 0} (P : Leaf → Type 0) (Q : A → Type 0) (leaves : A → Leaves) → ((a : A) → All P (leaves a) → Q a) → (xs : List A) → All P (of_all leaves xs) → All Q xs
each_of P Q leaves given [] all = All-nil Q
each_of P Q leaves given (x ∷ xs) all =
    All-cons Q x xs (given x (left_of P (leaves x) (of_all leaves xs) all)) (each_of P Q leaves given xs (right_of P (leaves x) (of_all leaves xs) all))

of_form : SourceForm → Leaves
of_form = fold-Form Leaves Leaves expr_step (λ e. e.form)

abbrev leaves_in : Source SourceForm SourceExpr → Leaves
leaves_in x = expr_step (map-Form SourceForm SourceExpr Leaves Leaves of_form of_expr x)

expr_is : (e : SourceExpr) → of_expr e ≡ of_form e.form
unfolding of_expr of_form
expr_is e = fold-roll-Expr Leaves Leaves expr_step (λ e. e.form) (record { line = e.line; form = e.form })

by_roll : (x : Source SourceForm SourceExpr) → of_form (roll-Form x) ≡ leaves_in x
unfolding of_expr of_form
by_roll x = fold-roll-Form Leaves Leaves expr_step (λ e. e.form) x

leaves_at : (e : SourceExpr) → of_expr e ≡ leaves_in (out-Form e.form)
leaves_at e = expr_is e ∙ (ap of_form (sym (roll-out-Form e.form)) ∙ by_roll (out-Form e.form))

abbrev Written : ℕ → Leaves → Type 0
Written n = All (IsWritten n)

number_in : (n : ℕ) (x : Source SourceForm SourceExpr) → Written n (leaves_in x) → NotNegative (number_of x)
number_in n (Source.Number k) all = All-head (IsWritten n) (number k) [] all
number_in n _ all = tt

signed_in : (n : ℕ) (op : UnaryOp) (e : SourceExpr) → Written n (of_expr e) → Negatable (Source.Unary op e)
signed_in n UnaryOp.Minus e all = number_in n (out-Form e.form) (subst (Written n) (leaves_at e) all)
signed_in n _ e all = tt

form_in : (n : ℕ) (x : Source SourceForm SourceExpr) → Written n (leaves_in x) → Negatable x
form_in n (Source.Unary op e) all = signed_in n op e all
form_in n _ all = tt

value_in : (n : ℕ) (v : Option SourceExpr) → Written n (of_option of_expr v) → NegatableValue v
value_in n None all = tt
value_in n (Some e) all = form_in n (out-Form e.form) (subst (Written n) (leaves_at e) all)

item_in : (n : ℕ) (i : DeclItem) → Written n (of_decl_item i) → NegatableValue i.value
item_in n i all = value_in n i.value (right_of (IsWritten n) (of_declarator i.declarator) (of_option of_expr i.value) all)

starts_in : (n : ℕ) (i : Item) → Written n (of_item i) → NegatableStarts i
starts_in n (Item.Decl d) all =
    each_of (IsWritten n) (λ i. NegatableValue i.value) of_decl_item (item_in n) d.items
    (right_of (IsWritten n) (of_base d.base) (of_all of_decl_item d.items) all)
starts_in n _ all = tt

-- what `check` has of its tree
pub starts_negatable : (n : ℕ) (items : List Item) → Written n (leaves_of items) → All NegatableStarts items
starts_negatable n items all = each_of (IsWritten n) NegatableStarts of_item (starts_in n) items all
