-- The tokens of each form of an expression.
use Rattle.std.proofs.Common.{◌≡◌, ℤ, suc, ◌++◌, ◌∷◌, [], List, map, refl, ap, ◌∙◌, sym, arith}
use Rattle.std.proofs.lemmas.List.Folds.{flat_map-map}
use Rattle.c_lex.specs.declared.token.Word.{Word}
use Rattle.c_lex.specs.declared.token.Mark.{Mark}
use Rattle.c_ast.specs.declared.ident.Ident.{Ident}
use Rattle.c_ast.specs.declared.decl.TypeName.{TypeName}
use Rattle.c_ast.specs.declared.expr.UnaryOp.{UnaryOp}
use Rattle.c_ast.specs.declared.expr.BinaryOp.{BinaryOp}
use Rattle.c_ast.specs.declared.expr.Expr.{Expr}
use Rattle.c_ast.specs.declared.expr.Form.{Form, roll-Form}
use Rattle.c_ast.specs.declared.expr.Form.TheVariants as f
use Rattle.c_ast.specs.declared.expr.Form.TheOpen.{Form-F}
use Rattle.c_print.specs.Precedence.{precedence, prefixed, postfix}
use Rattle.c_print.specs.Signs.{unary_sign, binary_sign}
use Rattle.c_print.specs.TreeTokens.{Kinds, Placed, bare_step, level, mark, name, number, word, in_brackets, in_parens, of_expr, of_form, of_type, of_whole, with_commas}
use Rattle.c_print.proofs.Levels.{by_roll, kept, mapped}

bare_roll : (x : Form-F Form Expr) → of_form (roll-Form x) 0 ≡ bare_step (mapped x)
bare_roll x = ap (λ g. g 0) (by_roll x) ∙ kept (level (mapped x)) 0 (omega arith) (bare_step (mapped x))

pub binary : (a : Expr) (op : BinaryOp) (b : Expr)
    → of_form (f.Binary a op b) 0 ≡ of_expr a (precedence op) ++ mark (binary_sign op) ∷ of_expr b (suc (precedence op))
binary a op b = ap (λ k. of_form k 0) (sym (f.rolls-Binary a op b)) ∙ bare_roll (Form-F.Binary a op b)

pub unary : (op : UnaryOp) (a : Expr) → of_form (f.Unary op a) 0 ≡ mark (unary_sign op) ∷ of_expr a prefixed
unary op a = ap (λ k. of_form k 0) (sym (f.rolls-Unary op a)) ∙ bare_roll (Form-F.Unary op a)

pub cast : (t : TypeName) (a : Expr) → of_form (f.Cast t a) 0 ≡ in_parens (of_type t) ++ of_expr a prefixed
cast t a = ap (λ k. of_form k 0) (sym (f.rolls-Cast t a)) ∙ bare_roll (Form-F.Cast t a)

pub index : (a b : Expr) → of_form (f.Index a b) 0 ≡ of_expr a postfix ++ in_brackets (of_whole b)
index a b = ap (λ k. of_form k 0) (sym (f.rolls-Index a b)) ∙ bare_roll (Form-F.Index a b)

pub field : (a : Expr) (i : Ident) → of_form (f.Field a i) 0 ≡ of_expr a postfix ++ mark Mark.Dot ∷ name i ∷ []
field a i = ap (λ k. of_form k 0) (sym (f.rolls-Field a i)) ∙ bare_roll (Form-F.Field a i)

pub arrow : (a : Expr) (i : Ident) → of_form (f.Arrow a i) 0 ≡ of_expr a postfix ++ mark Mark.Arrow ∷ name i ∷ []
arrow a i = ap (λ k. of_form k 0) (sym (f.rolls-Arrow a i)) ∙ bare_roll (Form-F.Arrow a i)

pub numeral : (k : ℤ) → of_form (f.Number k) 0 ≡ number k ∷ []
numeral k = ap (λ x. of_form x 0) (sym (f.rolls-Number k)) ∙ bare_roll (Form-F.Number k)

pub null : of_form f.Null 0 ≡ word Word.Null ∷ []
null = ap (λ k. of_form k 0) (sym f.rolls-Null) ∙ bare_roll Form-F.Null

pub variable : (i : Ident) → of_form (f.Name i) 0 ≡ name i ∷ []
variable i = ap (λ k. of_form k 0) (sym (f.rolls-Name i)) ∙ bare_roll (Form-F.Name i)

pub sizeof : (t : TypeName) → of_form (f.Sizeof t) 0 ≡ word Word.Sizeof ∷ in_parens (of_type t)
sizeof t = ap (λ k. of_form k 0) (sym (f.rolls-Sizeof t)) ∙ bare_roll (Form-F.Sizeof t)

-- the arguments of a call, each by its tokens
arguments_of : Form-F Placed Placed → List Placed
arguments_of (Form-F.Call g args) = args
arguments_of _ = []

arguments_mapped : (g : Ident) (args : List Expr) → arguments_of (mapped (Form-F.Call g args)) ≡ map of_expr args
unfolding arguments_of
arguments_mapped g [] = refl
arguments_mapped g (x ∷ xs) = ap (λ ys. of_expr x ∷ ys) (arguments_mapped g xs)

with_commas-map : {A B : Type 0} (g : B → Kinds) (h : A → B) (xs : List A) → with_commas g (map h xs) ≡ with_commas (λ x. g (h x)) xs
with_commas-map g h [] = refl
with_commas-map g h (x ∷ xs) = ap (λ ks. g (h x) ++ ks) (flat_map-map (λ y. mark Mark.Comma ∷ g y) h xs)

pub call : (g : Ident) (args : List Expr) → of_form (f.Call g args) 0 ≡ name g ∷ in_parens (with_commas of_whole args)
unfolding arguments_of
call g args =
    ap (λ k. of_form k 0) (sym (f.rolls-Call g args)) ∙ bare_roll (Form-F.Call g args)
    ∙ ap (λ ks. name g ∷ in_parens (with_commas (λ (a : Placed). a 0) ks)) (arguments_mapped g args)
    ∙ ap (λ ks. name g ∷ in_parens ks) (with_commas-map (λ (a : Placed). a 0) of_expr args)

pub ruleset forms = (binary, unary, cast, index, field, arrow, numeral, null, variable, sizeof, call)
