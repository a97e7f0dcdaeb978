-- Every expression is derived from its tokens, on one line, at each place.
use Rattle.std.proofs.Common.{◌≡◌, ℕ, ℤ, suc, ◌≤◌, List, [], ◌∷◌, ◌++◌, Some, map, refl, ap, ◌∙◌, sym, subst, append_assoc, arith}
use Rattle.std.specs.List.{AllByRecursion}
use Rattle.std.proofs.lemmas.List.{append-nil}
use Rattle.c_lex.specs.declared.token.Word.{Word}
use Rattle.c_lex.specs.declared.token.Mark.{Mark}
use Rattle.c_ast.specs.declared.ident.Ident.{Ident}
use Rattle.c_ast.specs.declared.decl.TypeName.{TypeName}
use Rattle.c_ast.specs.declared.expr.UnaryOp.{UnaryOp}
use Rattle.c_ast.specs.declared.expr.BinaryOp.{BinaryOp}
use Rattle.c_ast.specs.declared.expr.Expr.{Expr, Expr-F, roll-Expr}
use Rattle.c_ast.specs.declared.expr.Form.{Form, ind-Form, out-Form, roll-Form, map-Form}
use Rattle.c_ast.specs.declared.expr.Form.TheOpen.{Form-F}
use Rattle.c_ast.specs.declared.expr.Form.TheVariants as f
use Rattle.parse_law.specs.Nesting.{Anywhere}
use Rattle.c_parse.specs.Nodes as n
use Rattle.c_parse.specs.Symbol.{Symbols}
use Rattle.c_parse.specs.declared.operators.Tier.{Tier}
use Rattle.c_parse.specs.Operators.{binary_op, unary_op}
use Rattle.c_parse.specs.Exprs as g
use Rattle.c_print.specs.Precedence.{precedence, prefixed, postfix}
use Rattle.c_print.specs.Signs.{binary_sign, unary_sign}
use Rattle.c_print.specs.SameTree as one
use Rattle.c_print.proofs.Joining.{on_line, on_first_line, join, with_index, with_field, with_arrow}
use Rattle.c_print.specs.TreeTokens.{Kinds, in_brackets, in_parens, level, mark, name, of_expr, of_type, of_whole, with_commas, word}
use Rattle.c_print.proofs.Forms as text
use Rattle.c_print.proofs.OneLine as line
use Rattle.c_print.proofs.TypeReads.{at, type_name}
use Rattle.c_print.proofs.ExprReads.{Leveled, Reads, from, of_level, of_postfix, whole}

abbrev pub ReadsExpr : Expr → Type 0
ReadsExpr e = Reads e.form

pub whole_reads : (a : Expr) → ReadsExpr a → (c : ℕ) (rest : Kinds) → g.ExprAt Anywhere c (on_line (of_whole a ++ rest)) (one.expr a) (on_line rest)
whole_reads a r c rest = whole (r.levels 0 (omega arith) c rest)

pub unary_of : {c : ℕ} {ks rest : Kinds} {a : Expr} → Leveled [] c ks a rest → g.UnaryAt Anywhere c (on_line ks) a (on_line rest)
unary_of l = unary_of_level l.stands
  where
    unary_of_level : {c d : ℕ} {ts rest : Symbols} {a : Expr} → g.LevelAt Anywhere [] c ts a rest d → g.UnaryAt Anywhere c ts a rest
    unary_of_level (g.single u) = u

pub unary_reads : (a : Expr) → ReadsExpr a → (c : ℕ) (rest : Kinds) → g.UnaryAt Anywhere c (on_line (of_expr a prefixed ++ rest)) (one.expr a) (on_line rest)
unary_reads a r c rest = unary_of (r.levels prefixed (omega arith) c rest)

-- the tokens and the form, written otherwise
formed : {ks ls : Kinds} {x y : Form} {c : ℕ} (rest : Kinds) → ks ≡ ls → x ≡ y
    → g.PostfixAt Anywhere c (on_line (ls ++ rest)) (record { line = one.first; form = y }) (on_line rest)
    → g.PostfixAt Anywhere c (on_line (ks ++ rest)) (record { line = one.first; form = x }) (on_line rest)
formed {ks} {ls} {x} {y} {c} rest e h p =
    subst (λ (k : Kinds). g.PostfixAt Anywhere c (on_line (k ++ rest)) (record { line = one.first; form = x }) (on_line rest)) (sym e)
    (subst (λ (k : Form). g.PostfixAt Anywhere c (on_line (ls ++ rest)) (record { line = one.first; form = k }) (on_line rest)) (sym h) p)

formed_level : {lower : List Tier} {ks ls : Kinds} {x y : Form} {c : ℕ} {rest : Kinds} → ks ≡ ls → x ≡ y
    → Leveled lower c ls (record { line = one.first; form = y }) rest → Leveled lower c ks (record { line = one.first; form = x }) rest
formed_level {lower} {ks} {ls} {x} {y} {c} {rest} e h p =
    subst (λ (k : Kinds). Leveled lower c k (record { line = one.first; form = x }) rest) (sym e)
    (subst (λ (k : Form). Leveled lower c ls (record { line = one.first; form = k }) rest) (sym h) p)

-- ---- how tightly each form holds together

pub level_numeral : (k : ℤ) → level (out-Form (f.Number k)) ≡ postfix
unfolding out-Form denote.Hole.Carrier.out
level_numeral k = refl

pub level_null : level (out-Form (f.Null)) ≡ postfix
unfolding out-Form denote.Hole.Carrier.out
level_null = refl

pub level_variable : (i : Ident) → level (out-Form (f.Name i)) ≡ postfix
unfolding out-Form denote.Hole.Carrier.out
level_variable i = refl

pub level_sizeof : (t : TypeName) → level (out-Form (f.Sizeof t)) ≡ postfix
unfolding out-Form denote.Hole.Carrier.out
level_sizeof t = refl

pub level_unary : (op : UnaryOp) (a : Expr) → level (out-Form (f.Unary op a)) ≡ prefixed
unfolding out-Form denote.Hole.Carrier.out
level_unary op a = refl

pub level_cast : (t : TypeName) (a : Expr) → level (out-Form (f.Cast t a)) ≡ prefixed
unfolding out-Form denote.Hole.Carrier.out
level_cast t a = refl

pub level_binary : (a : Expr) (op : BinaryOp) (b : Expr) → level (out-Form (f.Binary a op b)) ≡ precedence op
unfolding out-Form denote.Hole.Carrier.out
level_binary a op b = refl

pub level_index : (a b : Expr) → level (out-Form (f.Index a b)) ≡ postfix
unfolding out-Form denote.Hole.Carrier.out
level_index a b = refl

pub level_field : (a : Expr) (i : Ident) → level (out-Form (f.Field a i)) ≡ postfix
unfolding out-Form denote.Hole.Carrier.out
level_field a i = refl

pub level_arrow : (a : Expr) (i : Ident) → level (out-Form (f.Arrow a i)) ≡ postfix
unfolding out-Form denote.Hole.Carrier.out
level_arrow a i = refl

pub level_call : (i : Ident) (xs : List Expr) → level (out-Form (f.Call i xs)) ≡ postfix
unfolding out-Form denote.Hole.Carrier.out
level_call i xs = refl

numeral : (k : ℤ) → Reads (f.Number k)
numeral k = of_postfix (f.Number k) (level_numeral k) (λ c rest. formed rest (text.numeral k) (line.numeral k) (g.postfix g.numeral g.no_suffix))

null : Reads f.Null
null = of_postfix f.Null level_null (λ c rest. formed rest text.null line.null (g.postfix g.null g.no_suffix))

variable : (i : Ident) → Reads (f.Name i)
variable i = of_postfix (f.Name i) (level_variable i) (λ c rest. formed rest (text.variable i) (line.variable i) (g.postfix g.variable g.no_suffix))

type_closed : (t : TypeName) (rest : Kinds) → in_parens (of_type t) ++ rest ≡ mark Mark.OpenParen ∷ (of_type t ++ mark Mark.CloseParen ∷ rest)
type_closed t rest = ap (λ ls. mark Mark.OpenParen ∷ ls) (append_assoc (of_type t) (mark Mark.CloseParen ∷ []) rest)

sizeof : (t : TypeName) → Reads (f.Sizeof t)
sizeof t = of_postfix (f.Sizeof t) (level_sizeof t) (λ c rest. formed rest (text.sizeof t) (line.sizeof t)
    (at (λ ts. g.PostfixAt Anywhere c ts (n.Sizeof one.first (one.type_name t)) (on_line rest)) (ap (λ ls. word Word.Sizeof ∷ ls) (type_closed t rest))
    (g.postfix (g.sizeof (type_name t (mark Mark.CloseParen ∷ rest))) g.no_suffix)))

-- ---- with an operator or a cast before it

sign_unary : (op : UnaryOp) → unary_op (unary_sign op) ≡ Some op
sign_unary UnaryOp.Minus = refl
sign_unary UnaryOp.Plus = refl
sign_unary UnaryOp.Not = refl
sign_unary UnaryOp.Complement = refl
sign_unary UnaryOp.Deref = refl
sign_unary UnaryOp.Address = refl

unary : (op : UnaryOp) (a : Expr) → ReadsExpr a → Reads (f.Unary op a)
unary op a r = of_level (f.Unary op a) prefixed (omega arith) (level_unary op a) (λ c rest.
    formed_level (ap (λ ks. ks ++ rest) (text.unary op a)) (line.unary op a)
    (record { counter = c; stands = g.single (g.unary tt (g.prefixed (sign_unary op) (unary_reads a r (suc c) rest))) }))

cast_closed : (t : TypeName) (a : Kinds) (rest : Kinds)
    → (in_parens (of_type t) ++ a) ++ rest ≡ mark Mark.OpenParen ∷ (of_type t ++ mark Mark.CloseParen ∷ (a ++ rest))
cast_closed t a rest = append_assoc (in_parens (of_type t)) a rest ∙ type_closed t (a ++ rest)

cast : (t : TypeName) (a : Expr) → ReadsExpr a → Reads (f.Cast t a)
cast t a r = of_level (f.Cast t a) prefixed (omega arith) (level_cast t a) (λ c rest.
    formed_level (ap (λ ks. ks ++ rest) (text.cast t a) ∙ cast_closed t (of_expr a prefixed) rest) (line.cast t a)
    (record { counter = c; stands = g.single (g.unary tt (g.cast (type_name t (mark Mark.CloseParen ∷ (of_expr a prefixed ++ rest))) (unary_reads a r (suc c) rest))) }))

-- ---- between two operands

record TierOf (op : BinaryOp) : Type 0 where
  tier : Tier
  place : precedence op ≤ 9
  here : from (precedence op) ≡ tier ∷ from (suc (precedence op))
  sign : binary_op (binary_sign op) ≡ Some (tier, op)

tier_of : (op : BinaryOp) → TierOf op
tier_of BinaryOp.Or = record { tier = Tier.LogicalOr; place = omega arith; here = refl; sign = refl }
tier_of BinaryOp.And = record { tier = Tier.LogicalAnd; place = omega arith; here = refl; sign = refl }
tier_of BinaryOp.BitOr = record { tier = Tier.BitwiseOr; place = omega arith; here = refl; sign = refl }
tier_of BinaryOp.BitXor = record { tier = Tier.BitwiseXor; place = omega arith; here = refl; sign = refl }
tier_of BinaryOp.BitAnd = record { tier = Tier.BitwiseAnd; place = omega arith; here = refl; sign = refl }
tier_of BinaryOp.Equal = record { tier = Tier.Equality; place = omega arith; here = refl; sign = refl }
tier_of BinaryOp.NotEqual = record { tier = Tier.Equality; place = omega arith; here = refl; sign = refl }
tier_of BinaryOp.Less = record { tier = Tier.Relational; place = omega arith; here = refl; sign = refl }
tier_of BinaryOp.Greater = record { tier = Tier.Relational; place = omega arith; here = refl; sign = refl }
tier_of BinaryOp.LessEqual = record { tier = Tier.Relational; place = omega arith; here = refl; sign = refl }
tier_of BinaryOp.GreaterEqual = record { tier = Tier.Relational; place = omega arith; here = refl; sign = refl }
tier_of BinaryOp.ShiftLeft = record { tier = Tier.Shift; place = omega arith; here = refl; sign = refl }
tier_of BinaryOp.ShiftRight = record { tier = Tier.Shift; place = omega arith; here = refl; sign = refl }
tier_of BinaryOp.Add = record { tier = Tier.Additive; place = omega arith; here = refl; sign = refl }
tier_of BinaryOp.Sub = record { tier = Tier.Additive; place = omega arith; here = refl; sign = refl }
tier_of BinaryOp.Mul = record { tier = Tier.Multiplicative; place = omega arith; here = refl; sign = refl }
tier_of BinaryOp.Div = record { tier = Tier.Multiplicative; place = omega arith; here = refl; sign = refl }
tier_of BinaryOp.Rem = record { tier = Tier.Multiplicative; place = omega arith; here = refl; sign = refl }

binary : (a : Expr) (op : BinaryOp) (b : Expr) → ReadsExpr a → ReadsExpr b → Reads (f.Binary a op b)
binary a op b r s =
    let t = tier_of op in
    let p = t.place in
    of_level (f.Binary a op b) (precedence op) (omega (arith, p)) (level_binary a op b) (λ c rest.
    let right : Kinds = of_expr b (suc (precedence op)) ++ rest in
    let left = r.levels (precedence op) (omega (arith, p)) c (mark (binary_sign op) ∷ right) in
    let behind = s.levels (suc (precedence op)) (omega (arith, p)) (suc left.counter) rest in
    formed_level (ap (λ ks. ks ++ rest) (text.binary a op b) ∙ append_assoc (of_expr a (precedence op)) (mark (binary_sign op) ∷ of_expr b (suc (precedence op))) rest)
    (line.binary a op b)
    (subst (λ (k : List Tier). Leveled k c (of_expr a (precedence op) ++ mark (binary_sign op) ∷ right) (n.Binary one.first (one.expr a) op (one.expr b)) rest) (sym t.here)
    (record {
      counter = behind.counter;
      stands = join (on_first_line (of_expr a (precedence op) ++ mark (binary_sign op) ∷ right))
          (subst (λ (k : List Tier). g.LevelAt Anywhere k c (on_line (of_expr a (precedence op) ++ mark (binary_sign op) ∷ right)) (one.expr a)
          (on_line (mark (binary_sign op) ∷ right)) left.counter) t.here left.stands)
          t.sign behind.stands;
    })))

-- ---- with a suffix

index : (a b : Expr) → ReadsExpr a → ReadsExpr b → Reads (f.Index a b)
index a b r s = of_postfix (f.Index a b) (level_index a b) (λ c rest.
    let closed : Kinds = mark Mark.OpenBracket ∷ (of_whole b ++ mark Mark.CloseBracket ∷ rest) in
    formed rest (text.index a b) (line.index a b)
    (at (λ ts. g.PostfixAt Anywhere c ts (n.Index one.first (one.expr a) (one.expr b)) (on_line rest))
    (append_assoc (of_expr a postfix) (in_brackets (of_whole b)) rest
    ∙ ap (λ ks. of_expr a postfix ++ mark Mark.OpenBracket ∷ ks) (append_assoc (of_whole b) (mark Mark.CloseBracket ∷ []) rest))
    (with_index (on_first_line (of_expr a postfix ++ closed)) (r.operand c closed) (λ k. whole_reads b s k (mark Mark.CloseBracket ∷ rest)))))

field : (a : Expr) (i : Ident) → ReadsExpr a → Reads (f.Field a i)
field a i r = of_postfix (f.Field a i) (level_field a i) (λ c rest.
    formed rest (text.field a i) (line.field a i)
    (at (λ ts. g.PostfixAt Anywhere c ts (n.Field one.first (one.expr a) (one.ident i)) (on_line rest))
    (append_assoc (of_expr a postfix) (mark Mark.Dot ∷ name i ∷ []) rest)
    (with_field (on_first_line (of_expr a postfix ++ mark Mark.Dot ∷ name i ∷ rest)) (r.operand c (mark Mark.Dot ∷ name i ∷ rest)))))

arrow : (a : Expr) (i : Ident) → ReadsExpr a → Reads (f.Arrow a i)
arrow a i r = of_postfix (f.Arrow a i) (level_arrow a i) (λ c rest.
    formed rest (text.arrow a i) (line.arrow a i)
    (at (λ ts. g.PostfixAt Anywhere c ts (n.Arrow one.first (one.expr a) (one.ident i)) (on_line rest))
    (append_assoc (of_expr a postfix) (mark Mark.Arrow ∷ name i ∷ []) rest)
    (with_arrow (on_first_line (of_expr a postfix ++ mark Mark.Arrow ∷ name i ∷ rest)) (r.operand c (mark Mark.Arrow ∷ name i ∷ rest)))))

-- ---- calls

pub one_comma : {A : Type 0} (of : A → Kinds) (x : A) (rest : Kinds) → with_commas of (x ∷ []) ++ rest ≡ of x ++ rest
one_comma of x rest = ap (λ ks. ks ++ rest) (append-nil (of x))

pub more_commas : {A : Type 0} (of : A → Kinds) (x y : A) (ys : List A) (rest : Kinds)
    → with_commas of (x ∷ y ∷ ys) ++ rest ≡ of x ++ mark Mark.Comma ∷ (with_commas of (y ∷ ys) ++ rest)
more_commas of x y ys rest = append_assoc (of x) (mark Mark.Comma ∷ with_commas of (y ∷ ys)) rest

arguments : (x : Expr) (xs : List Expr) → ReadsExpr x → AllByRecursion ReadsExpr xs → (c : ℕ) (rest : Kinds)
    → g.ArgumentsAt Anywhere c (on_line (with_commas of_whole (x ∷ xs) ++ rest)) (one.expr x ∷ map one.expr xs) (on_line rest)
arguments x [] r rs c rest =
    at (λ ts. g.ArgumentsAt Anywhere c ts (one.expr x ∷ []) (on_line rest)) (one_comma of_whole x rest) (g.last_argument (whole_reads x r c rest))
arguments x (y ∷ ys) r rs c rest =
    at (λ ts. g.ArgumentsAt Anywhere c ts (one.expr x ∷ one.expr y ∷ map one.expr ys) (on_line rest)) (more_commas of_whole x y ys rest)
    (g.more_arguments (whole_reads x r c (mark Mark.Comma ∷ (with_commas of_whole (y ∷ ys) ++ rest))) (arguments y ys rs.0 rs.1 c rest))

pub call_reads : (i : Ident) (xs : List Expr) → AllByRecursion ReadsExpr xs → (c : ℕ) (rest : Kinds)
    → g.CallAt Anywhere c (on_line ((name i ∷ in_parens (with_commas of_whole xs)) ++ rest)) (one.ident i) (map one.expr xs) (on_line rest)
call_reads i [] rs c rest = g.no_argument
call_reads i (x ∷ xs) rs c rest =
    at (λ ts. g.CallAt Anywhere c ts (one.ident i) (one.expr x ∷ map one.expr xs) (on_line rest))
    (ap (λ ks. name i ∷ mark Mark.OpenParen ∷ ks) (append_assoc (with_commas of_whole (x ∷ xs)) (mark Mark.CloseParen ∷ []) rest))
    (g.call (arguments x xs rs.0 rs.1 c (mark Mark.CloseParen ∷ rest)))

call : (i : Ident) (xs : List Expr) → AllByRecursion ReadsExpr xs → Reads (f.Call i xs)
call i xs rs = of_postfix (f.Call i xs) (level_call i xs) (λ c rest.
    formed rest (text.call i xs) (line.call i xs) (g.postfix (g.called (call_reads i xs rs c rest)) g.no_suffix))

-- ---- all of them

module _ {A B : Type 0} (form_of : A → Form) (expr_of : B → Expr) (reads_form : (a : A) → Reads (form_of a)) (reads_expr : (b : B) → ReadsExpr (expr_of b)) where
  all_read : (xs : List B) → AllByRecursion ReadsExpr (map expr_of xs)
  all_read [] = tt
  all_read (x ∷ xs) = (reads_expr x, all_read xs)

  step : (x : Form-F A B) → Reads (roll-Form (map-Form A B Form Expr form_of expr_of x))
  step (Form-F.Binary a op b) = subst Reads (sym (f.rolls-Binary (expr_of a) op (expr_of b))) (binary (expr_of a) op (expr_of b) (reads_expr a) (reads_expr b))
  step (Form-F.Unary op a) = subst Reads (sym (f.rolls-Unary op (expr_of a))) (unary op (expr_of a) (reads_expr a))
  step (Form-F.Cast t a) = subst Reads (sym (f.rolls-Cast t (expr_of a))) (cast t (expr_of a) (reads_expr a))
  step (Form-F.Index a b) = subst Reads (sym (f.rolls-Index (expr_of a) (expr_of b))) (index (expr_of a) (expr_of b) (reads_expr a) (reads_expr b))
  step (Form-F.Field a i) = subst Reads (sym (f.rolls-Field (expr_of a) i)) (field (expr_of a) i (reads_expr a))
  step (Form-F.Arrow a i) = subst Reads (sym (f.rolls-Arrow (expr_of a) i)) (arrow (expr_of a) i (reads_expr a))
  step (Form-F.Number k) = subst Reads (sym (f.rolls-Number k)) (numeral k)
  step Form-F.Null = subst Reads (sym f.rolls-Null) null
  step (Form-F.Name i) = subst Reads (sym (f.rolls-Name i)) (variable i)
  step (Form-F.Call i xs) = subst Reads (sym (f.rolls-Call i (map expr_of xs))) (call i (map expr_of xs) (all_read xs))
  step (Form-F.Sizeof t) = subst Reads (sym (f.rolls-Sizeof t)) (sizeof t)

pub form_reads : (x : Form) → Reads x
form_reads =
    ind-Form Reads ReadsExpr
    (λ x y e. subst (λ (k : Form-F Form Expr). Reads (roll-Form k)) e (step (λ w. w.0) (λ w. w.0) (λ w. w.1) (λ w. w.1) y))
    (λ x y e. subst (λ (k : Expr-F Form Expr). ReadsExpr (roll-Expr k)) e y.form.1)
