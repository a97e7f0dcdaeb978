-- The tokens of a tree, in the order of the text. Lines tell nothing here. What the grammar would not derive is written as it stands.
use Rattle.std.specs.Prelude.{ℕ, suc, ℤ, nat_lt, List, [], ◌∷◌, ◌++◌, Option, Some, None, if◌then◌else◌, replicate}
use Rattle.std.specs.List.{flat_map, join_by}
use Rattle.c_lex.specs.declared.token.Word.{Word}
use Rattle.c_lex.specs.declared.token.Mark.{Mark}
use Rattle.c_lex.specs.declared.token.Kind.{Kind}
use Rattle.c_ast.specs.declared.ident.Ident.{Ident}
use Rattle.c_ast.specs.declared.decl.Base.{Base}
use Rattle.c_ast.specs.declared.decl.TypeName.{TypeName}
use Rattle.c_ast.specs.declared.decl.ResultType.{ResultType}
use Rattle.c_ast.specs.declared.decl.Declarator.{Declarator}
use Rattle.c_ast.specs.declared.decl.Decl.{Decl}
use Rattle.c_ast.specs.declared.decl.DeclItem.{DeclItem}
use Rattle.c_ast.specs.declared.decl.Brackets.{Brackets}
use Rattle.c_ast.specs.declared.decl.Param.{Param}
use Rattle.c_ast.specs.declared.decl.ProtoParam.{ProtoParam}
use Rattle.c_ast.specs.declared.decl.Params.{Params}
use Rattle.c_ast.specs.declared.decl.ProtoParams.{ProtoParams}
use Rattle.c_ast.specs.declared.expr.Expr.{Expr}
use Rattle.c_ast.specs.declared.expr.Form.{Form, fold-Form, out-Form}
use Rattle.c_ast.specs.declared.expr.Form.TheOpen.{Form-F}
use Rattle.c_ast.specs.declared.stmt.Simple.{Simple}
use Rattle.c_ast.specs.declared.stmt.ForStart.{ForStart}
use Rattle.c_ast.specs.declared.stmt.Block.{Block}
use Rattle.c_ast.specs.declared.stmt.BlockItem.{BlockItem}
use Rattle.c_ast.specs.declared.stmt.Stmt.{Stmt, fold-Stmt}
use Rattle.c_ast.specs.declared.stmt.Stmt.TheOpen.{Stmt-F}
use Rattle.c_ast.specs.declared.program.Field.{Field}
use Rattle.c_ast.specs.declared.program.StructDef.{StructDef}
use Rattle.c_ast.specs.declared.program.Function.{Function}
use Rattle.c_ast.specs.declared.program.Proto.{Proto}
use Rattle.c_ast.specs.declared.program.Item.{Item}
use Rattle.c_print.specs.Precedence.{precedence, prefixed, postfix}
use Rattle.c_print.specs.Signs.{unary_sign, binary_sign, assign_sign}

abbrev pub Kinds : Type 0
Kinds = List Kind

abbrev pub word : Word → Kind
word w = Kind.Word w

abbrev pub mark : Mark → Kind
mark m = Kind.Mark m

abbrev pub number : ℤ → Kind
number k = Kind.Num k

abbrev pub name : Ident → Kind
name i = Kind.Id i.name

-- ---- parts

abbrev pub if_some : {A : Type 0} → (A → Kinds) → Option A → Kinds
if_some f None = []
if_some f (Some x) = f x

-- of each in turn, with a comma between
abbrev pub with_commas : {A : Type 0} → (A → Kinds) → List A → Kinds
with_commas f xs = join_by f (mark Mark.Comma ∷ []) xs

abbrev pub in_parens : Kinds → Kinds
in_parens inside = mark Mark.OpenParen ∷ inside ++ mark Mark.CloseParen ∷ []

abbrev pub in_brackets : Kinds → Kinds
in_brackets inside = mark Mark.OpenBracket ∷ inside ++ mark Mark.CloseBracket ∷ []

abbrev pub in_braces : Kinds → Kinds
in_braces inside = mark Mark.OpenBrace ∷ inside ++ mark Mark.CloseBrace ∷ []

abbrev pub ended : Kinds → Kinds
ended front = front ++ mark Mark.Semicolon ∷ []

-- ---- types and declarators

abbrev pub of_stars : ℕ → Kinds
of_stars n = replicate n (mark Mark.Star)

abbrev pub of_base : Base → Kinds
of_base (Base.Int line) = word Word.Int ∷ []
of_base (Base.Struct line tag) = word Word.Struct ∷ name tag ∷ []

abbrev pub of_type : TypeName → Kinds
of_type t = of_base t.base ++ of_stars t.stars

abbrev pub of_result : ResultType → Kinds
of_result (ResultType.Type base stars) = of_base base ++ of_stars stars
of_result (ResultType.Void line) = word Word.Void ∷ []

abbrev pub of_length : ℤ → Kinds
of_length k = in_brackets (number k ∷ [])

abbrev pub of_brackets : Brackets → Kinds
of_brackets Brackets.Absent = []
of_brackets Brackets.Empty = in_brackets []
of_brackets (Brackets.Length k) = of_length k

abbrev pub of_declarator : Declarator → Kinds
of_declarator d = of_stars d.stars ++ name d.name ∷ flat_map of_length d.lengths

abbrev pub of_param : Param → Kinds
of_param p = of_base p.base ++ of_stars p.stars ++ name p.name ∷ of_brackets p.brackets

abbrev pub of_proto_param : ProtoParam → Kinds
of_proto_param p = of_base p.base ++ of_stars p.stars ++ if_some (λ i. name i ∷ []) p.name ++ of_brackets p.brackets

abbrev pub of_params : Params → Kinds
of_params Params.Empty = []
of_params (Params.Void line) = word Word.Void ∷ []
of_params (Params.List params) = with_commas of_param params

abbrev pub of_proto_params : ProtoParams → Kinds
of_proto_params ProtoParams.Empty = []
of_proto_params (ProtoParams.Void line) = word Word.Void ∷ []
of_proto_params (ProtoParams.List params) = with_commas of_proto_param params

-- ---- expressions

-- how tightly an expression holds together
abbrev pub level : {A B : Type 0} → Form-F A B → ℕ
level (Form-F.Binary left op right) = precedence op
level (Form-F.Unary op operand) = prefixed
level (Form-F.Cast to operand) = prefixed
level _ = postfix

abbrev pub level_of : Expr → ℕ
level_of e = level (out-Form e.form)

-- the tokens of an expression at a place that takes this level and those above
abbrev pub Placed : Type 0
Placed = ℕ → Kinds

-- One level of an expression without parentheses round it, with the tokens of each operand already known. Operators of one level go from
-- the left, so the right operand stands at the next level.
abbrev pub bare_step : Form-F Placed Placed → Kinds
bare_step (Form-F.Binary left op right) = left (precedence op) ++ mark (binary_sign op) ∷ right (suc (precedence op))
bare_step (Form-F.Unary op operand) = mark (unary_sign op) ∷ operand prefixed
bare_step (Form-F.Cast to operand) = in_parens (of_type to) ++ operand prefixed
bare_step (Form-F.Index array index) = array postfix ++ in_brackets (index 0)
bare_step (Form-F.Field whole field) = whole postfix ++ mark Mark.Dot ∷ name field ∷ []
bare_step (Form-F.Arrow pointer field) = pointer postfix ++ mark Mark.Arrow ∷ name field ∷ []
bare_step (Form-F.Number value) = number value ∷ []
bare_step Form-F.Null = word Word.Null ∷ []
bare_step (Form-F.Name i) = name i ∷ []
bare_step (Form-F.Call function arguments) = name function ∷ in_parens (with_commas (λ a. a 0) arguments)
bare_step (Form-F.Sizeof t) = word Word.Sizeof ∷ in_parens (of_type t)

-- in parentheses where the place takes only what holds together more tightly
abbrev pub form_step : Form-F Placed Placed → Placed
form_step f place = if nat_lt (level f) place then in_parens (bare_step f) else bare_step f

unfoldable pub of_form : Form → Placed
of_form = fold-Form Placed Placed form_step (λ e. e.form)

abbrev pub of_expr : Expr → Placed
of_expr e = of_form e.form

abbrev pub of_whole : Expr → Kinds
of_whole e = of_expr e 0

abbrev pub of_call : Ident → List Expr → Kinds
of_call function arguments = name function ∷ in_parens (with_commas of_whole arguments)

-- ---- statements

abbrev pub of_simple : Simple → Kinds
of_simple (Simple.Assign line target op value) = of_expr target prefixed ++ mark (assign_sign op) ∷ of_whole value
of_simple (Simple.Increment line target) = of_expr target postfix ++ mark Mark.PlusPlus ∷ []
of_simple (Simple.Decrement line target) = of_expr target postfix ++ mark Mark.MinusMinus ∷ []
of_simple (Simple.PreIncrement line target) = mark Mark.PlusPlus ∷ of_expr target prefixed
of_simple (Simple.PreDecrement line target) = mark Mark.MinusMinus ∷ of_expr target prefixed
of_simple (Simple.Call function arguments) = of_call function arguments

abbrev pub of_decl_item : DeclItem → Kinds
of_decl_item i = of_declarator i.declarator ++ if_some (λ e. mark Mark.Assign ∷ of_whole e) i.value

abbrev pub of_decl : Decl → Kinds
of_decl d = of_base d.base ++ ended (with_commas of_decl_item d.items)

abbrev pub of_start : ForStart → Kinds
of_start (ForStart.Decl d) = of_decl d
of_start (ForStart.Simple s) = ended (if_some of_simple s)

abbrev pub in_head : Word → Kinds → Kinds
in_head w inside = word w ∷ in_parens inside

abbrev pub for_head : ForStart → Option Expr → Option Simple → Kinds
for_head start condition step = in_head Word.For (of_start start ++ ended (if_some of_whole condition) ++ if_some of_simple step)

module _ {S : Type 0} (of : S → Kinds) where
  abbrev pub of_block_item : BlockItem S → Kinds
  of_block_item (BlockItem.Decl d) = of_decl d
  of_block_item (BlockItem.Stmt s) = of s

  abbrev pub of_block_by : Block S → Kinds
  of_block_by b = in_braces (flat_map of_block_item b.items)

-- One level of a statement, with the tokens of each statement in it already known.
abbrev pub stmt_step : Stmt-F Kinds → Kinds
stmt_step (Stmt-F.Block b) = of_block_by (λ s. s) b
stmt_step (Stmt-F.Empty line) = mark Mark.Semicolon ∷ []
stmt_step (Stmt-F.Simple s) = ended (of_simple s)
stmt_step (Stmt-F.Return line value) = word Word.Return ∷ ended (if_some of_whole value)
stmt_step (Stmt-F.Break line) = word Word.Break ∷ mark Mark.Semicolon ∷ []
stmt_step (Stmt-F.Continue line) = word Word.Continue ∷ mark Mark.Semicolon ∷ []
stmt_step (Stmt-F.If line condition first second) =
    in_head Word.If (of_whole condition) ++ first ++ if_some (λ s. word Word.Else ∷ s) second
stmt_step (Stmt-F.While line condition body) = in_head Word.While (of_whole condition) ++ body
stmt_step (Stmt-F.For line start condition step body) = for_head start condition step ++ body
stmt_step (Stmt-F.Par line branches) = word Word.Par ∷ in_braces (flat_map (of_block_by (λ s. s)) branches)

unfoldable pub of_stmt : Stmt → Kinds
of_stmt = fold-Stmt Kinds stmt_step

abbrev pub of_block : Block Stmt → Kinds
of_block = of_block_by of_stmt

-- ---- programs

abbrev pub of_field : Field → Kinds
of_field f = of_base f.base ++ ended (with_commas of_declarator f.items)

abbrev pub of_struct : StructDef → Kinds
of_struct d = word Word.Struct ∷ name d.tag ∷ ended (in_braces (flat_map of_field d.fields))

abbrev pub of_function : Function → Kinds
of_function f = of_result f.result ++ name f.name ∷ in_parens (of_params f.params) ++ of_block f.body

abbrev pub of_proto : Proto → Kinds
of_proto p = of_result p.result ++ name p.name ∷ ended (in_parens (of_proto_params p.params))

abbrev pub of_item : Item → Kinds
of_item (Item.Struct d) = of_struct d
of_item (Item.Decl d) = of_decl d
of_item (Item.Function f) = of_function f
of_item (Item.Proto p) = of_proto p

abbrev pub tokens_of : List Item → Kinds
tokens_of = flat_map of_item
