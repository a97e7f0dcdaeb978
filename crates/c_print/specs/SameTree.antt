-- Trees that differ in nothing but lines.
use Rattle.std.specs.Prelude.{◌≡◌, List, map, option_map}
use Rattle.dfi_base.specs.declared.numbers.Line.{Line}
use Rattle.c_ast.specs.declared.ident.Ident.{Ident}
use Rattle.c_ast.specs.declared.decl.Base.{Base}
use Rattle.c_ast.specs.declared.decl.TypeName.{TypeName}
use Rattle.c_ast.specs.declared.decl.ResultType.{ResultType}
use Rattle.c_ast.specs.declared.decl.Declarator.{Declarator}
use Rattle.c_ast.specs.declared.decl.Decl.{Decl}
use Rattle.c_ast.specs.declared.decl.DeclItem.{DeclItem}
use Rattle.c_ast.specs.declared.decl.Param.{Param}
use Rattle.c_ast.specs.declared.decl.ProtoParam.{ProtoParam}
use Rattle.c_ast.specs.declared.decl.Params.{Params}
use Rattle.c_ast.specs.declared.decl.ProtoParams.{ProtoParams}
use Rattle.c_ast.specs.declared.expr.Expr.{Expr}
use Rattle.c_ast.specs.declared.expr.Form.{Form, fold-Form, roll-Form}
use Rattle.c_ast.specs.declared.expr.Form.TheOpen.{Form-F}
use Rattle.c_ast.specs.declared.stmt.Simple.{Simple}
use Rattle.c_ast.specs.declared.stmt.ForStart.{ForStart}
use Rattle.c_ast.specs.declared.stmt.Block.{Block}
use Rattle.c_ast.specs.declared.stmt.BlockItem.{BlockItem}
use Rattle.c_ast.specs.declared.stmt.Stmt.{Stmt, fold-Stmt, roll-Stmt}
use Rattle.c_ast.specs.declared.stmt.Stmt.TheOpen.{Stmt-F}
use Rattle.c_ast.specs.declared.program.Field.{Field}
use Rattle.c_ast.specs.declared.program.StructDef.{StructDef}
use Rattle.c_ast.specs.declared.program.Function.{Function}
use Rattle.c_ast.specs.declared.program.Proto.{Proto}
use Rattle.c_ast.specs.declared.program.Item.{Item}
use Rattle.c_ast.specs.Ast.{Ast}

-- the line that every node is set to
abbrev pub first : Line
first = record { 0 = 1 }

abbrev pub ident : Ident → Ident
ident i = record { line = first; name = i.name }

abbrev pub base : Base → Base
base (Base.Int line) = Base.Int first
base (Base.Struct line tag) = Base.Struct first (ident tag)

abbrev pub type_name : TypeName → TypeName
type_name t = record { base = base t.base; stars = t.stars }

abbrev pub result_type : ResultType → ResultType
result_type (ResultType.Type b stars) = ResultType.Type (base b) stars
result_type (ResultType.Void line) = ResultType.Void first

abbrev pub declarator : Declarator → Declarator
declarator d = record { line = first; stars = d.stars; name = ident d.name; lengths = d.lengths }

abbrev pub param : Param → Param
param p = record { base = base p.base; stars = p.stars; name = ident p.name; brackets = p.brackets }

abbrev pub proto_param : ProtoParam → ProtoParam
proto_param p = record { base = base p.base; stars = p.stars; name = option_map ident p.name; brackets = p.brackets }

abbrev pub params : Params → Params
params Params.Empty = Params.Empty
params (Params.Void line) = Params.Void first
params (Params.List ps) = Params.List (map param ps)

abbrev pub proto_params : ProtoParams → ProtoParams
proto_params ProtoParams.Empty = ProtoParams.Empty
proto_params (ProtoParams.Void line) = ProtoParams.Void first
proto_params (ProtoParams.List ps) = ProtoParams.List (map proto_param ps)

abbrev pub form_step : Form-F Form Expr → Form-F Form Expr
form_step (Form-F.Binary left op right) = Form-F.Binary left op right
form_step (Form-F.Unary op operand) = Form-F.Unary op operand
form_step (Form-F.Cast to operand) = Form-F.Cast (type_name to) operand
form_step (Form-F.Index array index) = Form-F.Index array index
form_step (Form-F.Field whole field) = Form-F.Field whole (ident field)
form_step (Form-F.Arrow pointer field) = Form-F.Arrow pointer (ident field)
form_step (Form-F.Number value) = Form-F.Number value
form_step Form-F.Null = Form-F.Null
form_step (Form-F.Name i) = Form-F.Name (ident i)
form_step (Form-F.Call function arguments) = Form-F.Call (ident function) arguments
form_step (Form-F.Sizeof t) = Form-F.Sizeof (type_name t)

unfoldable pub form : Form → Form
form = fold-Form Form Expr (λ f. roll-Form (form_step f)) (λ e. record { line = first; form = e.form })

abbrev pub expr : Expr → Expr
expr e = record { line = first; form = form e.form }

abbrev pub simple : Simple → Simple
simple (Simple.Assign line target op value) = Simple.Assign first (expr target) op (expr value)
simple (Simple.Increment line target) = Simple.Increment first (expr target)
simple (Simple.Decrement line target) = Simple.Decrement first (expr target)
simple (Simple.PreIncrement line target) = Simple.PreIncrement first (expr target)
simple (Simple.PreDecrement line target) = Simple.PreDecrement first (expr target)
simple (Simple.Call function arguments) = Simple.Call (ident function) (map expr arguments)

abbrev pub decl_item : DeclItem → DeclItem
decl_item i = record { declarator = declarator i.declarator; value = option_map expr i.value }

abbrev pub decl : Decl → Decl
decl d = record { base = base d.base; items = map decl_item d.items }

abbrev pub start : ForStart → ForStart
start (ForStart.Decl d) = ForStart.Decl (decl d)
start (ForStart.Simple s) = ForStart.Simple (option_map simple s)

module _ {S T : Type 0} (of : S → T) where
  abbrev pub block_item : BlockItem S → BlockItem T
  block_item (BlockItem.Decl d) = BlockItem.Decl (decl d)
  block_item (BlockItem.Stmt s) = BlockItem.Stmt (of s)

  abbrev pub block_by : Block S → Block T
  block_by b = record { line = first; items = map block_item b.items; close = first }

abbrev pub stmt_step : Stmt-F Stmt → Stmt-F Stmt
stmt_step (Stmt-F.Block b) = Stmt-F.Block (block_by (λ s. s) b)
stmt_step (Stmt-F.Empty line) = Stmt-F.Empty first
stmt_step (Stmt-F.Simple s) = Stmt-F.Simple (simple s)
stmt_step (Stmt-F.Return line value) = Stmt-F.Return first (option_map expr value)
stmt_step (Stmt-F.Break line) = Stmt-F.Break first
stmt_step (Stmt-F.Continue line) = Stmt-F.Continue first
stmt_step (Stmt-F.If line condition taken other) = Stmt-F.If first (expr condition) taken other
stmt_step (Stmt-F.While line condition body) = Stmt-F.While first (expr condition) body
stmt_step (Stmt-F.For line begin condition step body) = Stmt-F.For first (start begin) (option_map expr condition) (option_map simple step) body
stmt_step (Stmt-F.Par line branches) = Stmt-F.Par first (map (block_by (λ s. s)) branches)

unfoldable pub stmt : Stmt → Stmt
stmt = fold-Stmt Stmt (λ x. roll-Stmt (stmt_step x))

abbrev pub block : Block Stmt → Block Stmt
block = block_by stmt

abbrev pub field : Field → Field
field f = record { base = base f.base; items = map declarator f.items }

abbrev pub struct_def : StructDef → StructDef
struct_def d = record { line = first; tag = ident d.tag; fields = map field d.fields }

abbrev pub function : Function → Function
function f = record { result = result_type f.result; name = ident f.name; params = params f.params; body = block f.body }

abbrev pub proto : Proto → Proto
proto p = record { result = result_type p.result; name = ident p.name; params = proto_params p.params }

abbrev pub item : Item → Item
item (Item.Struct d) = Item.Struct (struct_def d)
item (Item.Decl d) = Item.Decl (decl d)
item (Item.Function f) = Item.Function (function f)
item (Item.Proto p) = Item.Proto (proto p)

-- the same items, with every line set to one
abbrev pub on_one_line : List Item → List Item
on_one_line = map item

-- the whole tree with every line set to one
abbrev pub on_first_line : Ast → Ast
on_first_line a = record { items = on_one_line a.items; names = a.names; last = first }

-- the same tree, lines aside
abbrev pub SameTree : Ast → Ast → Type 0
SameTree a b = on_first_line a ≡ on_first_line b
