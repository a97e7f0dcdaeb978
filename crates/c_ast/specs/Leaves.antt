-- The identifiers and numbers of a tree, in the order of the text. One token of the text stands at each of them.
use Rattle.std.specs.Prelude.{ℕ, ℤ, List, [], ◌∷◌, ◌++◌, Option, Some, None}
use Rattle.c_ast.specs.declared.ident.Ident.{Ident}
use Rattle.c_ast.specs.declared.decl.Base.{Base}
use Rattle.c_ast.specs.declared.decl.TypeName.{TypeName}
use Rattle.c_ast.specs.declared.decl.ResultType.{ResultType}
use Rattle.c_ast.specs.declared.decl.Declarator.{Declarator}
use Rattle.c_ast.specs.declared.decl.Decl.{Decl}
use Rattle.c_ast.specs.declared.decl.DeclItem.{DeclItem}
use Rattle.c_ast.specs.declared.decl.Brackets.{Brackets}
use Rattle.c_ast.specs.declared.decl.Param.{Param}
use Rattle.c_ast.specs.declared.decl.ProtoParam.{ProtoParam}
use Rattle.c_ast.specs.declared.decl.Params.{Params}
use Rattle.c_ast.specs.declared.decl.ProtoParams.{ProtoParams}
use Rattle.c_ast.specs.declared.expr.Expr.{Expr}
use Rattle.c_ast.specs.declared.expr.Expr.{fold-Expr}
use Rattle.c_ast.specs.declared.expr.Form.TheOpen.{Form-F}
use Rattle.c_ast.specs.declared.stmt.Simple.{Simple}
use Rattle.c_ast.specs.declared.stmt.ForStart.{ForStart}
use Rattle.c_ast.specs.declared.stmt.Block.{Block}
use Rattle.c_ast.specs.declared.stmt.BlockItem.{BlockItem}
use Rattle.c_ast.specs.declared.stmt.Stmt.{Stmt, fold-Stmt}
use Rattle.c_ast.specs.declared.stmt.Stmt.TheOpen.{Stmt-F}
use Rattle.c_ast.specs.declared.program.Field.{Field}
use Rattle.c_ast.specs.declared.program.Item.{Item}

pub data Leaf : Type 0 where
  name : ℕ → Leaf
  number : ℤ → Leaf

abbrev pub Leaves : Type 0
Leaves = List Leaf

abbrev pub of_ident : Ident → Leaves
of_ident i = name i.name ∷ []

-- of each in turn
abbrev pub of_all : {A : Type 0} → (A → Leaves) → List A → Leaves
of_all f [] = []
of_all f (x ∷ xs) = f x ++ of_all f xs

abbrev pub of_option : {A : Type 0} → (A → Leaves) → Option A → Leaves
of_option f None = []
of_option f (Some x) = f x

abbrev pub of_base : Base → Leaves
of_base (Base.Int line) = []
of_base (Base.Struct line tag) = of_ident tag

abbrev pub of_type : TypeName → Leaves
of_type t = of_base t.base

abbrev pub of_result : ResultType → Leaves
of_result (ResultType.Type base stars) = of_base base
of_result (ResultType.Void line) = []

abbrev pub of_length : ℤ → Leaves
of_length k = number k ∷ []

abbrev pub of_brackets : Brackets → Leaves
of_brackets Brackets.Absent = []
of_brackets Brackets.Empty = []
of_brackets (Brackets.Length k) = of_length k

abbrev pub of_declarator : Declarator → Leaves
of_declarator d = of_ident d.name ++ of_all of_length d.lengths

abbrev pub of_param : Param → Leaves
of_param p = of_base p.base ++ of_ident p.name ++ of_brackets p.brackets

abbrev pub of_proto_param : ProtoParam → Leaves
of_proto_param p = of_base p.base ++ of_option of_ident p.name ++ of_brackets p.brackets

abbrev pub of_params : Params → Leaves
of_params Params.Empty = []
of_params (Params.Void line) = []
of_params (Params.List params) = of_all of_param params

abbrev pub of_proto_params : ProtoParams → Leaves
of_proto_params ProtoParams.Empty = []
of_proto_params (ProtoParams.Void line) = []
of_proto_params (ProtoParams.List params) = of_all of_proto_param params

-- one level of an expression, with the leaves of each operand already known
abbrev pub expr_step : Form-F Leaves Leaves → Leaves
expr_step (Form-F.Binary left op right) = left ++ right
expr_step (Form-F.Unary op operand) = operand
expr_step (Form-F.Cast to operand) = of_type to ++ operand
expr_step (Form-F.Index array index) = array ++ index
expr_step (Form-F.Field whole field) = whole ++ of_ident field
expr_step (Form-F.Arrow pointer field) = pointer ++ of_ident field
expr_step (Form-F.Number value) = number value ∷ []
expr_step Form-F.Null = []
expr_step (Form-F.Name i) = of_ident i
expr_step (Form-F.Call function arguments) = of_ident function ++ of_all (λ a. a) arguments
expr_step (Form-F.Sizeof t) = of_type t

unfoldable pub of_expr : Expr → Leaves
of_expr = fold-Expr Leaves Leaves expr_step (λ e. e.form)

abbrev pub of_simple : Simple → Leaves
of_simple (Simple.Assign line target op value) = of_expr target ++ of_expr value
of_simple (Simple.Increment line target) = of_expr target
of_simple (Simple.Decrement line target) = of_expr target
of_simple (Simple.PreIncrement line target) = of_expr target
of_simple (Simple.PreDecrement line target) = of_expr target
of_simple (Simple.Call function arguments) = of_ident function ++ of_all of_expr arguments

abbrev pub of_decl_item : DeclItem → Leaves
of_decl_item i = of_declarator i.declarator ++ of_option of_expr i.value

abbrev pub of_decl : Decl → Leaves
of_decl d = of_base d.base ++ of_all of_decl_item d.items

abbrev pub of_start : ForStart → Leaves
of_start (ForStart.Decl d) = of_decl d
of_start (ForStart.Simple s) = of_option of_simple s

module _ {S : Type 0} (of : S → Leaves) where
  abbrev pub of_block_item : BlockItem S → Leaves
  of_block_item (BlockItem.Decl d) = of_decl d
  of_block_item (BlockItem.Stmt s) = of s

  abbrev pub of_block_by : Block S → Leaves
  of_block_by b = of_all of_block_item b.items

abbrev pub stmt_step : Stmt-F Leaves → Leaves
stmt_step (Stmt-F.Block b) = of_block_by (λ l. l) b
stmt_step (Stmt-F.Empty line) = []
stmt_step (Stmt-F.Simple s) = of_simple s
stmt_step (Stmt-F.Return line value) = of_option of_expr value
stmt_step (Stmt-F.Break line) = []
stmt_step (Stmt-F.Continue line) = []
stmt_step (Stmt-F.If line condition first second) = of_expr condition ++ first ++ of_option (λ l. l) second
stmt_step (Stmt-F.While line condition body) = of_expr condition ++ body
stmt_step (Stmt-F.For line start condition step body) = of_start start ++ of_option of_expr condition ++ of_option of_simple step ++ body
stmt_step (Stmt-F.Par line branches) = of_all (of_block_by (λ l. l)) branches

unfoldable pub of_stmt : Stmt → Leaves
of_stmt = fold-Stmt Leaves stmt_step

abbrev pub of_block : Block Stmt → Leaves
of_block = of_block_by of_stmt

abbrev pub of_field : Field → Leaves
of_field f = of_base f.base ++ of_all of_declarator f.items

abbrev pub of_item : Item → Leaves
of_item (Item.Struct d) = of_ident d.tag ++ of_all of_field d.fields
of_item (Item.Decl d) = of_decl d
of_item (Item.Function f) = of_result f.result ++ of_ident f.name ++ of_params f.params ++ of_block f.body
of_item (Item.Proto p) = of_result p.result ++ of_ident p.name ++ of_proto_params p.params

abbrev pub leaves_of : List Item → Leaves
leaves_of = of_all of_item
