-- What the walk finds, from what it finds of the parts.
use Rattle.std.proofs.Common.{◌≡◌, List, None, Ok, Err, ap, sym, ◌∙◌, subst}
use Rattle.c_ast.specs.declared.ident.Ident.{Ident}
use Rattle.c_ast.specs.declared.decl.TypeName.{TypeName}
use Rattle.c_ast.specs.declared.expr.Expr.{Expr as SourceExpr}
use Rattle.c_ast.specs.declared.expr.Form.TheVariants as form
use Rattle.c_ast.specs.declared.expr.Form.{roll-out-Form, out-Form, Form as SourceForm, roll-Form}
use Rattle.c_ast.specs.declared.expr.Form.TheOpen.{Form-F as Source}
use Rattle.c_typed.specs.declared.fault.TypeFault.{TypeFault}
use Rattle.c_typed.specs.declared.expr.Expr.{Expr}
use Rattle.c_types.specs.declared.outline.Outline.{Outline}
use Rattle.c_types.specs.declared.known.Known.{Known}
use Rattle.c_types.specs.tools.Steps.{Found, ◌>>=◌, Finds, Leaves}
use Rattle.c_types.specs.tools.ExprWalk.{Finding, expr_walk}
use Rattle.c_types.proofs.WalkLevels.{walk_roll}

pub first_fails : {A B : Type 0} (f : Found A) (g : A → Found B) (e : TypeFault) → Finds (Err e) f → Finds (Err e) (f >>= g)
first_fails f g e is = λ wanted. ap (λ r. r >>= g) (is wanted)

pub then_finds : {A B : Type 0} (f : Found A) (g : A → Found B) (a : A) (r : Found B) → Finds (Ok a) f → Finds r (g a) → Finds r (f >>= g)
then_finds f g a r is found = subst (λ x. Finds r (x >>= g)) (sym is) found

pub reads : (x y : Finding) (r : Found Expr) → x ≡ y → Finds r y.plain → Finds r x.plain
reads x y r is found = subst (λ f. Finds r f.plain) (sym is) found

-- an expression of another form is no call, and not `sizeof`
calls_of : (o : Outline) (k : Known) (e : SourceExpr) (x : Source SourceForm SourceExpr) → e.form ≡ roll-Form x → ((f : Ident) (xs : List SourceExpr) → e.form ≡ form.Call f xs → ⊥)
    → (expr_walk o k (record { line = e.line; form = roll-Form x })).calls ≡ None
calls_of o k e (Source.Call f xs) is differ = absurd (differ f xs (is ∙ form.rolls-Call f xs))
calls_of o k e (Source.Binary l op r) is differ = ap (λ f. f.calls) (walk_roll o k e.line (Source.Binary l op r))
calls_of o k e (Source.Unary op x) is differ = ap (λ f. f.calls) (walk_roll o k e.line (Source.Unary op x))
calls_of o k e (Source.Cast to x) is differ = ap (λ f. f.calls) (walk_roll o k e.line (Source.Cast to x))
calls_of o k e (Source.Index x i) is differ = ap (λ f. f.calls) (walk_roll o k e.line (Source.Index x i))
calls_of o k e (Source.Field x f) is differ = ap (λ f. f.calls) (walk_roll o k e.line (Source.Field x f))
calls_of o k e (Source.Arrow x f) is differ = ap (λ f. f.calls) (walk_roll o k e.line (Source.Arrow x f))
calls_of o k e (Source.Number n) is differ = ap (λ f. f.calls) (walk_roll o k e.line (Source.Number n))
calls_of o k e Source.Null is differ = ap (λ f. f.calls) (walk_roll o k e.line Source.Null)
calls_of o k e (Source.Name i) is differ = ap (λ f. f.calls) (walk_roll o k e.line (Source.Name i))
calls_of o k e (Source.Sizeof t) is differ = ap (λ f. f.calls) (walk_roll o k e.line (Source.Sizeof t))

pub no_call : (o : Outline) (k : Known) (e : SourceExpr) → ((f : Ident) (xs : List SourceExpr) → e.form ≡ form.Call f xs → ⊥) → (expr_walk o k e).calls ≡ None
no_call o k e differ =
    ap (λ f. (expr_walk o k (record { line = e.line; form = f })).calls) (sym (roll-out-Form e.form))
    ∙ calls_of o k e (out-Form e.form) (sym (roll-out-Form e.form)) differ

sizeof_of : (o : Outline) (k : Known) (e : SourceExpr) (x : Source SourceForm SourceExpr) → e.form ≡ roll-Form x → ((t : TypeName) → e.form ≡ form.Sizeof t → ⊥)
    → (expr_walk o k (record { line = e.line; form = roll-Form x })).sizeof ≡ None
sizeof_of o k e (Source.Sizeof t) is differ = absurd (differ t (is ∙ form.rolls-Sizeof t))
sizeof_of o k e (Source.Call f xs) is differ = ap (λ f. f.sizeof) (walk_roll o k e.line (Source.Call f xs))
sizeof_of o k e (Source.Binary l op r) is differ = ap (λ f. f.sizeof) (walk_roll o k e.line (Source.Binary l op r))
sizeof_of o k e (Source.Unary op x) is differ = ap (λ f. f.sizeof) (walk_roll o k e.line (Source.Unary op x))
sizeof_of o k e (Source.Cast to x) is differ = ap (λ f. f.sizeof) (walk_roll o k e.line (Source.Cast to x))
sizeof_of o k e (Source.Index x i) is differ = ap (λ f. f.sizeof) (walk_roll o k e.line (Source.Index x i))
sizeof_of o k e (Source.Field x f) is differ = ap (λ f. f.sizeof) (walk_roll o k e.line (Source.Field x f))
sizeof_of o k e (Source.Arrow x f) is differ = ap (λ f. f.sizeof) (walk_roll o k e.line (Source.Arrow x f))
sizeof_of o k e (Source.Number n) is differ = ap (λ f. f.sizeof) (walk_roll o k e.line (Source.Number n))
sizeof_of o k e Source.Null is differ = ap (λ f. f.sizeof) (walk_roll o k e.line Source.Null)
sizeof_of o k e (Source.Name i) is differ = ap (λ f. f.sizeof) (walk_roll o k e.line (Source.Name i))

pub no_sizeof : (o : Outline) (k : Known) (e : SourceExpr) → ((t : TypeName) → e.form ≡ form.Sizeof t → ⊥) → (expr_walk o k e).sizeof ≡ None
no_sizeof o k e differ =
    ap (λ f. (expr_walk o k (record { line = e.line; form = f })).sizeof) (sym (roll-out-Form e.form))
    ∙ sizeof_of o k e (out-Form e.form) (sym (roll-out-Form e.form)) differ

-- With what is known behind it.
pub as_walk : {A K : Type 0} (r : Found A) (known : K) (x y : Found (A × K)) → x ≡ y → Leaves r known y → Leaves r known x
as_walk (Ok a) known x y is leaves = is ∙ leaves
as_walk (Err e) known x y is leaves = λ wanted. is ∙ leaves wanted

pub leaves_same : {A K : Type 0} (r : Found A) (known : K) (f : Found A) → Finds r f → Leaves r known (f >>= (λ a. Ok (a, known)))
leaves_same (Ok a) known f is = ap (λ f. f >>= (λ a. Ok (a, known))) is
leaves_same (Err e) known f is = λ wanted. ap (λ f. f >>= (λ a. Ok (a, known))) (is wanted)

pub then_leaves : {A B K : Type 0} (f : Found A) (g : A → Found (B × K)) (a : A) (r : Found B) (known : K) → Finds (Ok a) f → Leaves r known (g a) → Leaves r known (f >>= g)
then_leaves f g a r known is leaves = as_walk r known (f >>= g) (g a) (ap (λ f. f >>= g) is) leaves

pub none_leaves : {A B K : Type 0} (f : Found A) (g : A → Found (B × K)) (e : TypeFault) (known : K) → Finds (Err e) f → Leaves (Err e) known (f >>= g)
none_leaves f g e known is = λ wanted. ap (λ f. f >>= g) (is wanted)
