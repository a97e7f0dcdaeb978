-- The tokens of a declaration or a simple statement are derived as it, on one line.
use Rattle.std.proofs.Common.{◌≡◌, ℕ, suc, List, [], ◌∷◌, ◌++◌, Option, Some, None, map, option_map, refl, ap, ◌∙◌, sym, subst, append_assoc}
use Rattle.std.specs.List.{AllByRecursion}
use Rattle.std.proofs.lemmas.List.{append-nil}
use Rattle.dfi_base.specs.declared.numbers.Line.{Line}
use Rattle.c_lex.specs.declared.token.Mark.{Mark}
use Rattle.c_ast.specs.declared.decl.Decl.{Decl}
use Rattle.c_ast.specs.declared.decl.DeclItem.{DeclItem}
use Rattle.c_ast.specs.declared.decl.Declarator.{Declarator}
use Rattle.c_ast.specs.declared.expr.Expr.{Expr}
use Rattle.c_ast.specs.declared.stmt.AssignOp.{AssignOp}
use Rattle.c_ast.specs.declared.stmt.Simple.{Simple}
use Rattle.c_ast.specs.declared.stmt.ForStart.{ForStart}
use Rattle.parse_law.specs.Nesting.{May, Anywhere}
use Rattle.c_parse.specs.Symbol.{Symbol, Symbols, mark as symbol}
use Rattle.c_parse.specs.Operators.{assign_op}
use Rattle.c_parse.specs.Exprs as g
use Rattle.c_parse.specs.Stmts as s
use Rattle.c_print.specs.Precedence.{prefixed, postfix}
use Rattle.c_print.specs.Signs.{assign_sign}
use Rattle.c_print.specs.SameTree as one
use Rattle.c_print.proofs.Joining.{on_line, Begun, on_first_line, line_of_first, unary_begun, postfix_begun}
use Rattle.c_print.specs.TreeTokens.{Kinds, ended, if_some, mark, of_base, of_decl, of_decl_item, of_declarator, of_expr, of_simple, of_start, of_whole, with_commas}
use Rattle.c_print.proofs.TypeReads.{at, base, declarator}
use Rattle.c_print.proofs.FormReads.{ReadsExpr, call_reads, form_reads, more_commas, one_comma, unary_reads, whole_reads}

pub read_whole : (a : Expr) (c : ℕ) (rest : Kinds) → g.ExprAt Anywhere c (on_line (of_whole a ++ rest)) (one.expr a) (on_line rest)
read_whole a = whole_reads a (form_reads a.form)

read_unary : (a : Expr) (c : ℕ) (rest : Kinds) → g.UnaryAt Anywhere c (on_line (of_expr a prefixed ++ rest)) (one.expr a) (on_line rest)
read_unary a = unary_reads a (form_reads a.form)

read_postfix : (a : Expr) (c : ℕ) (rest : Kinds) → g.PostfixAt Anywhere c (on_line (of_expr a postfix ++ rest)) (one.expr a) (on_line rest)
read_postfix a = let r = form_reads a.form in r.operand

all_read : (xs : List Expr) → AllByRecursion ReadsExpr xs
all_read [] = tt
all_read (x ∷ xs) = (form_reads x.form, all_read xs)

-- ---- simple statements

assign_from : {c : ℕ} {ts m rest : Symbols} {k : Mark} {p : Line} {op : AssignOp} {a b : Expr} → Begun ts → line_of_first ts ≡ one.first
    → g.UnaryAt Anywhere c ts a (symbol k p ∷ m) → assign_op k ≡ Some op → g.ExprAt Anywhere c m b rest → s.SimpleAt Anywhere c ts (Simple.Assign one.first a op b) rest
assign_from {c} {ts} {m} {rest} {k} {p} {op} {a} {b} begun e u q x =
    subst (λ (l : Line). s.SimpleAt Anywhere c ts (Simple.Assign l a op b) rest) e
    (subst (λ (us : Symbols). g.UnaryAt Anywhere c us a (symbol k p ∷ m) → s.SimpleAt Anywhere c us (Simple.Assign (line_of_first us) a op b) rest) (sym begun.is)
    (λ v. s.assign v q x) u)

increment_from : {c : ℕ} {ts rest : Symbols} {p : Line} {a : Expr} → Begun ts → line_of_first ts ≡ one.first
    → g.PostfixAt Anywhere (suc c) ts a (symbol Mark.PlusPlus p ∷ rest) → s.SimpleAt Anywhere c ts (Simple.Increment one.first a) rest
increment_from {c} {ts} {rest} {p} {a} begun e u =
    subst (λ (l : Line). s.SimpleAt Anywhere c ts (Simple.Increment l a) rest) e
    (subst (λ (us : Symbols). g.PostfixAt Anywhere (suc c) us a (symbol Mark.PlusPlus p ∷ rest) → s.SimpleAt Anywhere c us (Simple.Increment (line_of_first us) a) rest)
    (sym begun.is) (λ v. s.increment tt v) u)

decrement_from : {c : ℕ} {ts rest : Symbols} {p : Line} {a : Expr} → Begun ts → line_of_first ts ≡ one.first
    → g.PostfixAt Anywhere (suc c) ts a (symbol Mark.MinusMinus p ∷ rest) → s.SimpleAt Anywhere c ts (Simple.Decrement one.first a) rest
decrement_from {c} {ts} {rest} {p} {a} begun e u =
    subst (λ (l : Line). s.SimpleAt Anywhere c ts (Simple.Decrement l a) rest) e
    (subst (λ (us : Symbols). g.PostfixAt Anywhere (suc c) us a (symbol Mark.MinusMinus p ∷ rest) → s.SimpleAt Anywhere c us (Simple.Decrement (line_of_first us) a) rest)
    (sym begun.is) (λ v. s.decrement tt v) u)

sign_assign : (op : AssignOp) → assign_op (assign_sign op) ≡ Some op
sign_assign AssignOp.Plain = refl
sign_assign AssignOp.Add = refl
sign_assign AssignOp.Sub = refl
sign_assign AssignOp.Mul = refl
sign_assign AssignOp.Div = refl
sign_assign AssignOp.Rem = refl
sign_assign AssignOp.BitAnd = refl
sign_assign AssignOp.BitOr = refl
sign_assign AssignOp.BitXor = refl
sign_assign AssignOp.ShiftLeft = refl
sign_assign AssignOp.ShiftRight = refl

pub read_simple : (x : Simple) (c : ℕ) (rest : Kinds) → s.SimpleAt Anywhere c (on_line (of_simple x ++ rest)) (one.simple x) (on_line rest)
read_simple (Simple.Assign line a op b) c rest =
    let u = read_unary a c (mark (assign_sign op) ∷ (of_whole b ++ rest)) in
    at (λ ts. s.SimpleAt Anywhere c ts (Simple.Assign one.first (one.expr a) op (one.expr b)) (on_line rest))
    (append_assoc (of_expr a prefixed) (mark (assign_sign op) ∷ of_whole b) rest)
    (assign_from (unary_begun u) (on_first_line (of_expr a prefixed ++ mark (assign_sign op) ∷ (of_whole b ++ rest))) u (sign_assign op) (read_whole b c rest))
read_simple (Simple.Increment line a) c rest =
    let u = read_postfix a (suc c) (mark Mark.PlusPlus ∷ rest) in
    at (λ ts. s.SimpleAt Anywhere c ts (Simple.Increment one.first (one.expr a)) (on_line rest)) (append_assoc (of_expr a postfix) (mark Mark.PlusPlus ∷ []) rest)
    (increment_from (postfix_begun u) (on_first_line (of_expr a postfix ++ mark Mark.PlusPlus ∷ rest)) u)
read_simple (Simple.Decrement line a) c rest =
    let u = read_postfix a (suc c) (mark Mark.MinusMinus ∷ rest) in
    at (λ ts. s.SimpleAt Anywhere c ts (Simple.Decrement one.first (one.expr a)) (on_line rest)) (append_assoc (of_expr a postfix) (mark Mark.MinusMinus ∷ []) rest)
    (decrement_from (postfix_begun u) (on_first_line (of_expr a postfix ++ mark Mark.MinusMinus ∷ rest)) u)
read_simple (Simple.PreIncrement line a) c rest = s.pre_increment (read_unary a c rest)
read_simple (Simple.PreDecrement line a) c rest = s.pre_decrement (read_unary a c rest)
read_simple (Simple.Call f args) c rest = s.call tt (call_reads f args (all_read args) (suc c) rest)

-- ---- declarations

pub read_value : (a : Option Expr) (c : ℕ) (rest : Kinds) → s.OptionalExprAt Anywhere c (on_line (if_some of_whole a ++ rest)) (option_map one.expr a) (on_line rest)
read_value None c rest = s.none
read_value (Some a) c rest = s.some (read_whole a c rest)

pub read_step : (a : Option Simple) (c : ℕ) (rest : Kinds) → s.OptionalSimpleAt Anywhere c (on_line (if_some of_simple a ++ rest)) (option_map one.simple a) (on_line rest)
read_step None c rest = s.none
read_step (Some a) c rest = s.some (read_simple a c rest)

item_from : (d : Declarator) (a : Option Expr) (c : ℕ) (rest : Kinds)
    → s.DeclItemAt Anywhere c (on_line ((of_declarator d ++ if_some (λ (x : Expr). mark Mark.Assign ∷ of_whole x) a) ++ rest))
    (record { declarator = one.declarator d; value = option_map one.expr a }) (on_line rest)
item_from d None c rest =
    at (λ ts. s.DeclItemAt Anywhere c ts (record { declarator = one.declarator d; value = None }) (on_line rest))
    (ap (λ ks. ks ++ rest) (append-nil (of_declarator d))) (s.plain (declarator d rest))
item_from d (Some a) c rest =
    at (λ ts. s.DeclItemAt Anywhere c ts (record { declarator = one.declarator d; value = Some (one.expr a) }) (on_line rest))
    (append_assoc (of_declarator d) (mark Mark.Assign ∷ of_whole a) rest)
    (s.valued (declarator d (mark Mark.Assign ∷ (of_whole a ++ rest))) (read_whole a c rest))

read_item : (i : DeclItem) (c : ℕ) (rest : Kinds) → s.DeclItemAt Anywhere c (on_line (of_decl_item i ++ rest)) (one.decl_item i) (on_line rest)
read_item i c rest = item_from i.declarator i.value c rest

read_items : (x : DeclItem) (xs : List DeclItem) (c : ℕ) (rest : Kinds)
    → s.DeclItemsAt Anywhere c (on_line (with_commas of_decl_item (x ∷ xs) ++ rest)) (one.decl_item x ∷ map one.decl_item xs) (on_line rest)
read_items x [] c rest =
    at (λ ts. s.DeclItemsAt Anywhere c ts (one.decl_item x ∷ []) (on_line rest)) (one_comma of_decl_item x rest) (s.last (read_item x c rest))
read_items x (y ∷ ys) c rest =
    at (λ ts. s.DeclItemsAt Anywhere c ts (one.decl_item x ∷ one.decl_item y ∷ map one.decl_item ys) (on_line rest)) (more_commas of_decl_item x y ys rest)
    (s.more (read_item x c (mark Mark.Comma ∷ (with_commas of_decl_item (y ∷ ys) ++ rest))) (read_items y ys c rest))

pub ended_append : (front rest : Kinds) → ended front ++ rest ≡ front ++ mark Mark.Semicolon ∷ rest
ended_append front rest = append_assoc front (mark Mark.Semicolon ∷ []) rest

decl_from : (d : Decl) (x : DeclItem) (xs : List DeclItem) → d.items ≡ x ∷ xs → (c : ℕ) (rest : Kinds) → s.DeclAt Anywhere c (on_line (of_decl d ++ rest)) (one.decl d) (on_line rest)
decl_from d x xs e c rest =
    subst (λ (is : List DeclItem). s.DeclAt Anywhere c (on_line ((of_base d.base ++ ended (with_commas of_decl_item is)) ++ rest))
    (record { base = one.base d.base; items = map one.decl_item is }) (on_line rest)) (sym e)
    (at (λ ts. s.DeclAt Anywhere c ts (record { base = one.base d.base; items = one.decl_item x ∷ map one.decl_item xs }) (on_line rest))
    (append_assoc (of_base d.base) (ended (with_commas of_decl_item (x ∷ xs))) rest
    ∙ ap (λ ks. of_base d.base ++ ks) (ended_append (with_commas of_decl_item (x ∷ xs)) rest))
    (s.decl (base d.base (with_commas of_decl_item (x ∷ xs) ++ mark Mark.Semicolon ∷ rest)) (read_items x xs c (mark Mark.Semicolon ∷ rest))))

-- a declaration that some tokens are
pub read_decl : {may : May Symbol} {k : ℕ} {ts us : Symbols} {d : Decl} → s.DeclAt may k ts d us
    → (c : ℕ) (rest : Kinds) → s.DeclAt Anywhere c (on_line (of_decl d ++ rest)) (one.decl d) (on_line rest)
read_decl (s.decl {b = b} t (s.last {i = i} x)) = decl_from (record { base = b; items = i ∷ [] }) i [] refl
read_decl (s.decl {b = b} t (s.more {i = i} {others = others} x xs)) = decl_from (record { base = b; items = i ∷ others }) i others refl

pub read_start : {may : May Symbol} {k : ℕ} {ts us : Symbols} {x : ForStart} → s.ForStartAt may k ts x us
    → (c : ℕ) (rest : Kinds) → s.ForStartAt Anywhere c (on_line (of_start x ++ rest)) (one.start x) (on_line rest)
read_start (s.decl d) c rest = s.decl (read_decl d c rest)
read_start (s.simple {a = a} x) c rest =
    at (λ ts. s.ForStartAt Anywhere c ts (ForStart.Simple (option_map one.simple a)) (on_line rest)) (ended_append (if_some of_simple a) rest)
    (s.simple (read_step a c (mark Mark.Semicolon ∷ rest)))
