-- A tree on one line has the same tokens.
use Rattle.std.proofs.Common.{◌≡◌, ℕ, suc, ◌<◌, ◌≤◌, ◌⊎◌, inl, inr, List, [], ◌∷◌, ◌++◌, map, refl, ap, ◌∙◌, sym, subst, arith}
use Rattle.std.specs.List.{AllByRecursion, flat_map}
use Rattle.std.proofs.lemmas.Bool.{cases_lt}
use Rattle.c_lex.specs.declared.token.Mark.{Mark}
use Rattle.c_lex.specs.declared.token.Word.{Word}
use Rattle.c_ast.specs.declared.ident.Ident.{Ident}
use Rattle.c_ast.specs.declared.decl.Base.{Base}
use Rattle.c_ast.specs.declared.decl.TypeName.{TypeName}
use Rattle.c_ast.specs.declared.expr.UnaryOp.{UnaryOp}
use Rattle.c_ast.specs.declared.expr.BinaryOp.{BinaryOp}
use Rattle.c_ast.specs.declared.expr.Expr.{Expr, Expr-F, roll-Expr}
use Rattle.c_ast.specs.declared.expr.Form.{Form, ind-Form, out-Form, roll-Form, map-Form}
use Rattle.c_ast.specs.declared.expr.Form.TheOpen.{Form-F}
use Rattle.c_ast.specs.declared.expr.Form.TheVariants as f
use Rattle.c_print.specs.Precedence.{precedence, prefixed, postfix}
use Rattle.c_print.specs.Signs.{binary_sign, unary_sign}
use Rattle.c_print.specs.SameTree as one
use Rattle.c_print.specs.TreeTokens.{in_brackets, in_parens, level, mark, name, of_base, of_expr, of_form, of_stars, of_type, of_whole, with_commas, word}
use Rattle.c_print.proofs.Levels.{loose, tight}
use Rattle.c_print.proofs.Forms as text
use Rattle.c_print.proofs.OneLine as line
use Rattle.c_print.proofs.FormReads as form

-- the same tokens at each place
pub record Same (x y : Form) : Type 0 where
  pub at : (place : ℕ) → of_form x place ≡ of_form y place

by_whole : (x y : Form) → level (out-Form x) ≡ level (out-Form y) → of_form x 0 ≡ of_form y 0 → Same x y
by_whole x y l w = record { at = λ place. by place (cases_lt (level (out-Form x)) place) }
  where
    by : (place : ℕ) → (level (out-Form x) < place) ⊎ (place ≤ level (out-Form x)) → of_form x place ≡ of_form y place
    by place (inl h) = loose x place h ∙ ap in_parens w ∙ sym (loose y place (omega (arith, l, h)))
    by place (inr h) = tight x place h ∙ w ∙ sym (tight y place (omega (arith, l, h)))

-- a form on one line, by how it is made
by_line : {x y : Form} → one.form x ≡ y → Same y x → Same (one.form x) x
by_line {x} {y} e s = subst (λ (k : Form). Same k x) (sym e) s

abbrev pub SameExpr : Expr → Type 0
SameExpr e = Same (one.form e.form) e.form

pub base : (b : Base) → of_base (one.base b) ≡ of_base b
base (Base.Int l) = refl
base (Base.Struct l i) = refl

pub type_name : (t : TypeName) → of_type (one.type_name t) ≡ of_type t
type_name t = ap (λ ks. ks ++ of_stars t.stars) (base t.base)

binary : (a : Expr) (op : BinaryOp) (b : Expr) → SameExpr a → SameExpr b → Same (f.Binary (one.expr a) op (one.expr b)) (f.Binary a op b)
binary a op b r s =
    let left = r.at (precedence op) in
    let right = s.at (suc (precedence op)) in
    by_whole (f.Binary (one.expr a) op (one.expr b)) (f.Binary a op b) (form.level_binary (one.expr a) op (one.expr b) ∙ sym (form.level_binary a op b))
    (text.binary (one.expr a) op (one.expr b)
    ∙ ap (λ ks. ks ++ mark (binary_sign op) ∷ of_form (one.form b.form) (suc (precedence op))) left
    ∙ ap (λ ks. of_expr a (precedence op) ++ mark (binary_sign op) ∷ ks) right ∙ sym (text.binary a op b))

unary : (op : UnaryOp) (a : Expr) → SameExpr a → Same (f.Unary op (one.expr a)) (f.Unary op a)
unary op a r =
    let e = r.at prefixed in
    by_whole (f.Unary op (one.expr a)) (f.Unary op a) (form.level_unary op (one.expr a) ∙ sym (form.level_unary op a))
    (text.unary op (one.expr a) ∙ ap (λ ks. mark (unary_sign op) ∷ ks) e ∙ sym (text.unary op a))

cast : (t : TypeName) (a : Expr) → SameExpr a → Same (f.Cast (one.type_name t) (one.expr a)) (f.Cast t a)
cast t a r =
    let e = r.at prefixed in
    by_whole (f.Cast (one.type_name t) (one.expr a)) (f.Cast t a) (form.level_cast (one.type_name t) (one.expr a) ∙ sym (form.level_cast t a))
    (text.cast (one.type_name t) (one.expr a) ∙ ap (λ ks. in_parens ks ++ of_form (one.form a.form) prefixed) (type_name t)
    ∙ ap (λ ks. in_parens (of_type t) ++ ks) e ∙ sym (text.cast t a))

index : (a b : Expr) → SameExpr a → SameExpr b → Same (f.Index (one.expr a) (one.expr b)) (f.Index a b)
index a b r s =
    let left = r.at postfix in
    let right = s.at 0 in
    by_whole (f.Index (one.expr a) (one.expr b)) (f.Index a b) (form.level_index (one.expr a) (one.expr b) ∙ sym (form.level_index a b))
    (text.index (one.expr a) (one.expr b) ∙ ap (λ ks. ks ++ in_brackets (of_form (one.form b.form) 0)) left
    ∙ ap (λ ks. of_expr a postfix ++ in_brackets ks) right ∙ sym (text.index a b))

field : (a : Expr) (i : Ident) → SameExpr a → Same (f.Field (one.expr a) (one.ident i)) (f.Field a i)
field a i r =
    let e = r.at postfix in
    by_whole (f.Field (one.expr a) (one.ident i)) (f.Field a i) (form.level_field (one.expr a) (one.ident i) ∙ sym (form.level_field a i))
    (text.field (one.expr a) (one.ident i) ∙ ap (λ ks. ks ++ mark Mark.Dot ∷ name i ∷ []) e ∙ sym (text.field a i))

arrow : (a : Expr) (i : Ident) → SameExpr a → Same (f.Arrow (one.expr a) (one.ident i)) (f.Arrow a i)
arrow a i r =
    let e = r.at postfix in
    by_whole (f.Arrow (one.expr a) (one.ident i)) (f.Arrow a i) (form.level_arrow (one.expr a) (one.ident i) ∙ sym (form.level_arrow a i))
    (text.arrow (one.expr a) (one.ident i) ∙ ap (λ ks. ks ++ mark Mark.Arrow ∷ name i ∷ []) e ∙ sym (text.arrow a i))

variable : (i : Ident) → Same (f.Name (one.ident i)) (f.Name i)
variable i = by_whole (f.Name (one.ident i)) (f.Name i) (form.level_variable (one.ident i) ∙ sym (form.level_variable i)) (text.variable (one.ident i) ∙ sym (text.variable i))

sizeof : (t : TypeName) → Same (f.Sizeof (one.type_name t)) (f.Sizeof t)
sizeof t =
    by_whole (f.Sizeof (one.type_name t)) (f.Sizeof t) (form.level_sizeof (one.type_name t) ∙ sym (form.level_sizeof t))
    (text.sizeof (one.type_name t) ∙ ap (λ ks. word Word.Sizeof ∷ in_parens ks) (type_name t) ∙ sym (text.sizeof t))

behind : (xs : List Expr) → AllByRecursion SameExpr xs
    → flat_map (λ y. mark Mark.Comma ∷ of_whole y) (map one.expr xs) ≡ flat_map (λ y. mark Mark.Comma ∷ of_whole y) xs
behind [] rs = refl
behind (x ∷ xs) (r, rs) =
    ap (λ ks. mark Mark.Comma ∷ ks ++ flat_map (λ y. mark Mark.Comma ∷ of_whole y) (map one.expr xs)) (r.at 0)
    ∙ ap (λ ks. mark Mark.Comma ∷ of_whole x ++ ks) (behind xs rs)

pub arguments : (xs : List Expr) → AllByRecursion SameExpr xs → with_commas of_whole (map one.expr xs) ≡ with_commas of_whole xs
arguments [] rs = refl
arguments (x ∷ xs) (r, rs) =
    ap (λ ks. ks ++ flat_map (λ y. mark Mark.Comma ∷ of_whole y) (map one.expr xs)) (r.at 0) ∙ ap (λ ks. of_whole x ++ ks) (behind xs rs)

call : (i : Ident) (xs : List Expr) → AllByRecursion SameExpr xs → Same (f.Call (one.ident i) (map one.expr xs)) (f.Call i xs)
call i xs rs =
    by_whole (f.Call (one.ident i) (map one.expr xs)) (f.Call i xs) (form.level_call (one.ident i) (map one.expr xs) ∙ sym (form.level_call i xs))
    (text.call (one.ident i) (map one.expr xs) ∙ ap (λ ks. name i ∷ in_parens ks) (arguments xs rs) ∙ sym (text.call i xs))

itself : (x : Form) → Same x x
itself x = record { at = λ place. refl }

abbrev SameForm : Form → Type 0
SameForm x = Same (one.form x) x

module _ {A B : Type 0} (form_of : A → Form) (expr_of : B → Expr) (same_form : (a : A) → SameForm (form_of a)) (same_expr : (b : B) → SameExpr (expr_of b)) where
  all_same : (xs : List B) → AllByRecursion SameExpr (map expr_of xs)
  all_same [] = tt
  all_same (x ∷ xs) = (same_expr x, all_same xs)

  step : (x : Form-F A B) → SameForm (roll-Form (map-Form A B Form Expr form_of expr_of x))
  step (Form-F.Binary a op b) =
      subst SameForm (sym (f.rolls-Binary (expr_of a) op (expr_of b)))
      (by_line (line.binary (expr_of a) op (expr_of b)) (binary (expr_of a) op (expr_of b) (same_expr a) (same_expr b)))
  step (Form-F.Unary op a) = subst SameForm (sym (f.rolls-Unary op (expr_of a))) (by_line (line.unary op (expr_of a)) (unary op (expr_of a) (same_expr a)))
  step (Form-F.Cast t a) = subst SameForm (sym (f.rolls-Cast t (expr_of a))) (by_line (line.cast t (expr_of a)) (cast t (expr_of a) (same_expr a)))
  step (Form-F.Index a b) =
      subst SameForm (sym (f.rolls-Index (expr_of a) (expr_of b))) (by_line (line.index (expr_of a) (expr_of b)) (index (expr_of a) (expr_of b) (same_expr a) (same_expr b)))
  step (Form-F.Field a i) = subst SameForm (sym (f.rolls-Field (expr_of a) i)) (by_line (line.field (expr_of a) i) (field (expr_of a) i (same_expr a)))
  step (Form-F.Arrow a i) = subst SameForm (sym (f.rolls-Arrow (expr_of a) i)) (by_line (line.arrow (expr_of a) i) (arrow (expr_of a) i (same_expr a)))
  step (Form-F.Number k) = subst SameForm (sym (f.rolls-Number k)) (by_line (line.numeral k) (itself (f.Number k)))
  step Form-F.Null = subst SameForm (sym f.rolls-Null) (by_line line.null (itself f.Null))
  step (Form-F.Name i) = subst SameForm (sym (f.rolls-Name i)) (by_line (line.variable i) (variable i))
  step (Form-F.Call i xs) = subst SameForm (sym (f.rolls-Call i (map expr_of xs))) (by_line (line.call i (map expr_of xs)) (call i (map expr_of xs) (all_same xs)))
  step (Form-F.Sizeof t) = subst SameForm (sym (f.rolls-Sizeof t)) (by_line (line.sizeof t) (sizeof t))

pub same_form : (x : Form) → SameForm x
same_form =
    ind-Form SameForm SameExpr
    (λ x y e. subst (λ (k : Form-F Form Expr). SameForm (roll-Form k)) e (step (λ w. w.0) (λ w. w.0) (λ w. w.1) (λ w. w.1) y))
    (λ x y e. subst (λ (k : Expr-F Form Expr). SameExpr (roll-Expr k)) e y.form.1)

pub same_at : (e : Expr) (place : ℕ) → of_expr (one.expr e) place ≡ of_expr e place
same_at e place = let s = same_form e.form in s.at place
