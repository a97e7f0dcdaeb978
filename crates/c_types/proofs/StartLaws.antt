-- What a global starts with, read off the form of its value.
use Rattle.std.proofs.Common.{◌≡◌, ℤ, pos, Some, None, refl, ap, sym, ◌∙◌}
use Rattle.c_ast.specs.declared.expr.UnaryOp.{UnaryOp}
use Rattle.c_ast.specs.declared.expr.Expr.{Expr as SourceExpr}
use Rattle.c_ast.specs.declared.expr.Form.TheVariants as form
use Rattle.c_ast.specs.declared.expr.Form.{roll-out-Form, out-roll-Form, out-Form, Form as SourceForm, roll-Form}
use Rattle.c_ast.specs.declared.expr.Form.TheOpen.{Form-F as Source}
use Rattle.c_typed.specs.Programs.{number_of, signed_number_of, null_of}

abbrev Shown : Type 0
Shown = Source SourceForm SourceExpr

abbrev seen : {A : Type 0} → (Shown → A) → SourceForm → A
seen read f = read (out-Form f)

seen_as : {A : Type 0} (read : Shown → A) (f : SourceForm) (x : Shown) → f ≡ roll-Form x → seen read f ≡ read x
seen_as read f x is = ap (seen read) is ∙ ap read (out-roll-Form x)

pub number_there : (f : SourceForm) (k : ℤ) → f ≡ form.Number k → seen number_of f ≡ Some k
number_there f k is = seen_as number_of f (Source.Number k) (is ∙ sym (form.rolls-Number k))

no_number_in : (x : Shown) → ((k : ℤ) → roll-Form x ≡ form.Number k → ⊥) → number_of x ≡ None
no_number_in (Source.Number k) differ = absurd (differ k (form.rolls-Number k))
no_number_in _ differ = refl

pub no_number : (f : SourceForm) → ((k : ℤ) → f ≡ form.Number k → ⊥) → seen number_of f ≡ None
no_number f differ = no_number_in (out-Form f) (λ k is. differ k (sym (roll-out-Form f) ∙ is))

pub null_there : (f : SourceForm) → f ≡ form.Null → seen null_of f ≡ Some (pos 0)
null_there f is = seen_as null_of f Source.Null (is ∙ sym form.rolls-Null)

no_null_in : (x : Shown) → (roll-Form x ≡ form.Null → ⊥) → null_of x ≡ None
no_null_in Source.Null differ = absurd (differ form.rolls-Null)
no_null_in _ differ = refl

pub no_null : (f : SourceForm) → (f ≡ form.Null → ⊥) → seen null_of f ≡ None
no_null f differ = no_null_in (out-Form f) (λ is. differ (sym (roll-out-Form f) ∙ is))

-- behind a sign too
pub plain_there : (f : SourceForm) (k : ℤ) → f ≡ form.Number k → seen signed_number_of f ≡ Some k
plain_there f k is = seen_as signed_number_of f (Source.Number k) (is ∙ sym (form.rolls-Number k))

no_sign_in : (x : Shown) → ((k : ℤ) → roll-Form x ≡ form.Number k → ⊥) → ((op : UnaryOp) (e : SourceExpr) → roll-Form x ≡ form.Unary op e → ⊥) → signed_number_of x ≡ None
no_sign_in (Source.Number k) differ other = absurd (differ k (form.rolls-Number k))
no_sign_in (Source.Unary op x) differ other = absurd (other op x (form.rolls-Unary op x))
no_sign_in _ differ other = refl

pub no_sign : (f : SourceForm) → ((k : ℤ) → f ≡ form.Number k → ⊥) → ((op : UnaryOp) (e : SourceExpr) → f ≡ form.Unary op e → ⊥) → seen signed_number_of f ≡ None
no_sign f differ other = no_sign_in (out-Form f) (λ k is. differ k (sym (roll-out-Form f) ∙ is)) (λ op e is. other op e (sym (roll-out-Form f) ∙ is))
