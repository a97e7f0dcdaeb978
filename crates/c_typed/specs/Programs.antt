-- Programs (C99 6.9): structs, globals, functions and prototypes.
use Rattle.std.specs.Prelude.{ℕ, suc, ◌+◌, ℤ, pos, neg_ℤ, Bool, true, false, ◌&&◌, ◌||◌, not, nat_eq, nat_le, nat_lt, List, [], ◌∷◌, ◌++◌, map, length, Option, Some, None, slice_get, is_some}
use Rattle.std.specs.List.{list_all}
use Rattle.c_ast.specs.Ast.{Ast}
use Rattle.c_ast.specs.declared.ident.Ident.{Ident}
use Rattle.c_ast.specs.declared.decl.Base.{Base}
use Rattle.c_ast.specs.declared.decl.Declarator.{Declarator}
use Rattle.c_ast.specs.declared.decl.Decl.{Decl}
use Rattle.c_ast.specs.declared.decl.DeclItem.{DeclItem}
use Rattle.c_ast.specs.declared.decl.ResultType.{ResultType}
use Rattle.c_ast.specs.declared.decl.Params.{Params}
use Rattle.c_ast.specs.declared.decl.ProtoParams.{ProtoParams}
use Rattle.c_ast.specs.declared.expr.UnaryOp.{UnaryOp}
use Rattle.c_ast.specs.declared.expr.Expr.{Expr as SourceExpr}
use Rattle.c_ast.specs.declared.expr.Form.{Form as SourceForm, out-Form}
use Rattle.c_ast.specs.declared.expr.Form.TheOpen.{Form-F as Source}
use Rattle.c_ast.specs.declared.stmt.Block.{Block}
use Rattle.c_ast.specs.declared.stmt.BlockItem.{BlockItem}
use Rattle.c_ast.specs.declared.stmt.Stmt.{Stmt as SourceStmt}
use Rattle.c_ast.specs.declared.program.StructDef.{StructDef}
use Rattle.c_ast.specs.declared.program.Function.{Function as SourceFunction}
use Rattle.c_ast.specs.declared.program.Proto.{Proto}
use Rattle.c_ast.specs.declared.program.Item.{Item}
use Rattle.c_typed.specs.declared.fault.BigWhat.{BigWhat}
use Rattle.c_typed.specs.declared.types.ObjectType.{ObjectType}
use Rattle.c_typed.specs.declared.types.ExprType.{ExprType}
use Rattle.c_typed.specs.declared.stmt.Stmt.{Stmt}
use Rattle.c_typed.specs.declared.program.Struct.{Struct}
use Rattle.c_typed.specs.declared.program.Global.{Global}
use Rattle.c_typed.specs.declared.program.Variable.{Variable}
use Rattle.c_typed.specs.declared.program.Function.{Function}
use Rattle.c_typed.specs.Types.{declared_type, pointers_to, parameter_stars, result_type, is_known, same_object, scalar_type, words_of, place_of}
use Rattle.c_typed.specs.Marks.{Mark, History, tag, global, function, prototype, local, opens, closes, fields, block, has_tag, has_global, has_function, has_prototype, functions_in, global_words}
use Rattle.c_typed.specs.Whole.{Whole, Member, Signature, whole_of, parameter_types, spelling, builtin_of, is_main}
use Rattle.c_typed.specs.Faults.{Fault, unknown, twice, mismatch, big, no_main, unless}
use Rattle.c_typed.specs.Parts.{Place, Judged, Part, given, tokens, mark, with_faults, separated, in_turn, ◌<⊗◌, ◌⊗>◌, ◌<$>◌}
use Rattle.c_typed.specs.Tags.{base}
use Rattle.c_typed.specs.Exprs.{expr}
use Rattle.c_typed.specs.Decls as decls
use Rattle.c_typed.specs.Decls.{declarator_tokens, name_at, by_value, has_items, is_scalar, type_limit, parameter, proto_parameter, joined_lists}
pub use Rattle.dfi_base.specs.Limits.{global_limit, function_limit}
use Rattle.c_typed.specs.Stmts.{body, stmt}
use Rattle.c_typed.specs.Typed.{Typed}
use Rattle.c_typed.specs.Sites.{numbered}

-- what a program declares, as few as the tokens of a text
abbrev pub declaration_limit : ℕ
declaration_limit = 200000

abbrev pub is_builtin : Whole → ℕ → Bool
is_builtin w x = is_some (builtin_of (spelling w x))

-- Structs: the tag is new.
abbrev pub struct : Whole → StructDef → Part (List (List (Unit {0})))
struct w d =
    with_faults (λ here. unless (not (has_tag d.tag.name here.before)) (here.at + 1) twice d.tag.line)
    (tokens 3 ⊗> mark (opens fields) ⊗> in_turn (map (decls.fields w) d.fields) <⊗ tokens 2 <⊗ mark closes <⊗ mark (tag d.tag.name))

-- A global's value is a number, `-` before a number, or `NULL` for a pointer.
abbrev pub number_of : Source SourceForm SourceExpr → Option ℤ
number_of (Source.Number k) = Some k
number_of _ = None

abbrev pub signed_number_of : Source SourceForm SourceExpr → Option ℤ
signed_number_of (Source.Number k) = Some k
signed_number_of (Source.Unary UnaryOp.Minus e) = elim (number_of (out-Form e.form)) [ None ↦ None | Some k ↦ Some (neg_ℤ k) ]
signed_number_of _ = None

abbrev pub null_of : Source SourceForm SourceExpr → Option ℤ
null_of Source.Null = Some (pos 0)
null_of _ = None

abbrev pub start_by : Option ExprType → Source SourceForm SourceExpr → Option ℤ
start_by (Some ExprType.Int) e = signed_number_of e
start_by (Some (ExprType.Pointer t)) e = null_of e
start_by _ e = None

abbrev pub start_of : ObjectType → Option SourceExpr → Option ℤ
start_of t None = Some (pos 0)
start_of t (Some e) = start_by (scalar_type t) (out-Form e.form)

-- A global: its name is new in the program and not `main`, its type and all globals are within their limits.
abbrev pub is_taken : Whole → ℕ → History → Bool
is_taken w x h = has_global x h || has_function x h || has_prototype x h || is_builtin w x

abbrev pub global_faults : Whole → DeclItem → Declarator → ObjectType → Place → List Fault
global_faults w i d t here =
    unless (has_items t.lengths && is_some (start_of t i.value)) here.at mismatch d.line
    ++ unless (not (is_taken w d.name.name here.before)) (name_at d here) twice d.name.line
    ++ unless (not (is_main w d.name.name)) (name_at d here) mismatch d.name.line
    ++ unless (nat_le (words_of w.sizes t) type_limit) (name_at d here) (big BigWhat.Shape) d.name.line
    ++ unless (nat_le (global_words w.sizes (global d.name.name t ∷ here.before)) global_limit) (name_at d here) (big BigWhat.Globals) d.name.line

abbrev pub value_tokens : Whole → Option SourceExpr → ℕ
value_tokens w None = 0
value_tokens w (Some e) = 1 + (expr w e).plain.tokens

abbrev pub global_item : Whole → Base → DeclItem → Part (Unit {0})
global_item w b i =
    let t = declared_type w.tags b i.declarator in
    with_faults (global_faults w i i.declarator t) (tokens (declarator_tokens i.declarator) <⊗ mark (global i.declarator.name.name t))
    <⊗ tokens (value_tokens w i.value)

abbrev pub global_decl : Whole → Decl → Part (List (Unit {0}))
global_decl w d =
    base w (by_value (map (λ i. i.declarator) d.items)) d.base ⊗> separated (map (global_item w d.base) d.items) <⊗ tokens 1

-- Functions and prototypes: what stands before the name.
abbrev pub result_base : Whole → ResultType → Part (Unit {0})
result_base w (ResultType.Void line) = tokens 1
result_base w (ResultType.Type b stars) = base w (nat_eq stars 0) b ⊗> tokens stars

abbrev pub has_scalar_result : Option ObjectType → Bool
has_scalar_result None = true
has_scalar_result (Some t) = is_scalar t

-- `int main()` or `int main(void)`
abbrev pub is_int : ResultType → Bool
is_int (ResultType.Type (Base.Int line) n) = nat_eq n 0
is_int _ = false

abbrev pub no_parameters : Params → Bool
no_parameters (Params.List ps) = false
no_parameters _ = true

abbrev pub no_proto_parameters : ProtoParams → Bool
no_proto_parameters (ProtoParams.List ps) = false
no_proto_parameters _ = true

-- A function: its name is no global's, no function's before and not built in, its result no struct.
abbrev pub function_faults : Whole → SourceFunction → Ident → Option ObjectType → Place → List Fault
function_faults w f x result here =
    unless (not (has_global x.name here.before || has_function x.name here.before || is_builtin w x.name)) here.at twice x.line
    ++ unless (has_scalar_result result && (not (is_main w x.name) || (is_int f.result && no_parameters f.params))) here.at mismatch x.line
    ++ unless (nat_lt (functions_in here.before) function_limit) here.at (big BigWhat.Functions) x.line

abbrev pub parameters : Whole → Params → Part (List (Unit {0}))
parameters w Params.Empty = given []
parameters w (Params.Void line) = (λ _. []) <$> tokens 1
parameters w (Params.List ps) = separated (map (parameter w) ps)

abbrev pub with_part : Whole → BlockItem SourceStmt → BlockItem (Part Stmt)
with_part w (BlockItem.Decl d) = BlockItem.Decl d
with_part w (BlockItem.Stmt s) = BlockItem.Stmt (stmt w s)

abbrev pub function_body : Whole → Block SourceStmt → Part (List Stmt)
function_body w b = body w (record { line = b.line; items = map (with_part w) b.items; close = b.close })

abbrev pub variables_in : List Mark → List Variable
variables_in [] = []
variables_in (local x t ∷ ms) = record { line = x.line; object = t } ∷ variables_in ms
variables_in (_ ∷ ms) = variables_in ms

abbrev pub function_text : Whole → SourceFunction → Option ObjectType → Part (List Stmt)
function_text w f result =
    result_base w f.result
    ⊗> with_faults (function_faults w f f.name result) (tokens 1 <⊗ mark (function f.name.name result))
    ⊗> tokens 1 ⊗> parameters w f.params ⊗> tokens 1 ⊗> function_body w f.body <⊗ mark closes

abbrev pub defined : Whole → SourceFunction → Option ObjectType → Part (List Stmt) → Part (List Function)
defined w f result p =
    (λ ss. record {
      line = f.name.line;
      result = result;
      parameters = length (parameter_types w.tags f.params);
      variables = variables_in p.marks;
      body = ss;
      close = f.body.close;
    } ∷ []) <$> p

abbrev pub function_item : Whole → SourceFunction → Part (List Function)
function_item w f = defined w f (result_type w.tags f.result) (function_text w f (result_type w.tags f.result))

-- A prototype: its function is defined somewhere, with the same types; its name is no global's before and not built in.
abbrev pub proto_types : List ℕ → ProtoParams → List ObjectType
proto_types tags ProtoParams.Empty = []
proto_types tags (ProtoParams.Void line) = []
proto_types tags (ProtoParams.List ps) = map (λ p. pointers_to tags p.base (parameter_stars p.stars p.brackets)) ps

abbrev pub same_objects : List ObjectType → List ObjectType → Bool
same_objects [] [] = true
same_objects (s ∷ ss) (t ∷ ts) = same_object s t && same_objects ss ts
same_objects _ _ = false

abbrev pub same_result : Option ObjectType → Option ObjectType → Bool
same_result None None = true
same_result (Some s) (Some t) = same_object s t
same_result _ _ = false

abbrev pub types_in : Option ObjectType → List ObjectType → List ObjectType
types_in None ts = ts
types_in (Some t) ts = t ∷ ts

-- none has a fault of its own: no unknown tag, and no struct
abbrev pub are_sound : List ObjectType → Bool
are_sound = list_all (λ t. is_known t && is_scalar t)

-- where a part of one of them has a fault of its own, the types are not compared
abbrev pub agrees : Option ObjectType → List ObjectType → Option Signature → Bool
agrees result types None = true
agrees result types (Some s) =
    not (are_sound (types_in result types) && are_sound (types_in s.result s.parameters))
    || (same_result result s.result && same_objects types s.parameters)

abbrev pub function_of : Whole → ℕ → Option Signature
function_of w x = slice_get w.functions (place_of x (map (λ s. s.name) w.functions))

abbrev pub proto_faults : Whole → Proto → Ident → Option ObjectType → Place → List Fault
proto_faults w p x result here =
    unless (is_some (function_of w x.name)) here.at unknown x.line
    ++ unless (not (has_global x.name here.before || is_builtin w x.name)) here.at twice x.line
    ++ unless (
    has_scalar_result result && agrees result (proto_types w.tags p.params) (function_of w x.name)
    && (not (is_main w x.name) || (is_int p.result && no_proto_parameters p.params))) here.at mismatch x.line

abbrev pub proto_parameters : Whole → ProtoParams → Part (List (Unit {0}))
proto_parameters w ProtoParams.Empty = given []
proto_parameters w (ProtoParams.Void line) = (λ _. []) <$> tokens 1
proto_parameters w (ProtoParams.List ps) = separated (map (proto_parameter w) ps)

-- its parameters are a scope
abbrev pub proto : Whole → Proto → Part (List (Unit {0}))
proto w p =
    result_base w p.result
    ⊗> with_faults (proto_faults w p p.name (result_type w.tags p.result)) (tokens 1 <⊗ mark (prototype p.name.name))
    ⊗> tokens 1 ⊗> mark (opens block) ⊗> proto_parameters w p.params <⊗ mark closes <⊗ tokens 2

-- The whole text.
abbrev pub item : Whole → Item → Part (List Function)
item w (Item.Struct d) = (λ _. []) <$> struct w d
item w (Item.Decl d) = (λ _. []) <$> global_decl w d
item w (Item.Function f) = function_item w f
item w (Item.Proto p) = (λ _. []) <$> proto w p

abbrev pub text : Whole → List Item → Part (List (List Function))
text w items = in_turn (map (item w) items)

-- the number of `main`, the count of functions where there is none
abbrev pub main_in : Whole → List Signature → ℕ
main_in w [] = 0
main_in w (s ∷ ss) = elim (is_main w s.name) [ true ↦ 0 | false ↦ suc (main_in w ss) ]

abbrev pub main_number : Whole → ℕ
main_number w = main_in w w.functions

abbrev pub judged : Whole → List Item → Judged (List (List Function))
judged w items = (text w items).judge (record { before = []; at = 0 })

-- the broken rules of a program
abbrev pub faults_by : Whole → Ast → List Fault
faults_by w a =
    (judged w a.items).faults
    ++ unless (nat_lt (main_number w) (length w.functions)) (text w a.items).tokens no_main a.last

abbrev pub faults_of : Ast → List Fault
faults_of a = faults_by (whole_of a.names a.items) a

-- The typed program of one that breaks no rule.
abbrev pub struct_by : List ℕ → List (List Member) → List Struct
struct_by (n ∷ sizes) (ms ∷ structs) = record { fields = map (λ m. m.object) ms; words = n } ∷ struct_by sizes structs
struct_by _ _ = []

abbrev pub started : List ℕ → Base → DeclItem → Declarator → List Global
started tags b i d =
    let t = declared_type tags b d in
    elim (start_of t i.value) [ None ↦ [] | Some k ↦ record { line = d.name.line; object = t; start = k } ∷ [] ]

abbrev pub globals_by : List ℕ → List Item → List Global
globals_by tags [] = []
globals_by tags (Item.Decl d ∷ items) = joined_lists (map (λ i. started tags d.base i i.declarator) d.items) ++ globals_by tags items
globals_by tags (_ ∷ items) = globals_by tags items

abbrev pub functions_by : Option (List (List Function)) → List Function
functions_by None = []
functions_by (Some fs) = joined_lists fs

abbrev pub typed_by : Whole → List Item → Typed
typed_by w items = record {
  structs = struct_by w.sizes w.structs;
  globals = globals_by w.tags items;
  functions = numbered (functions_by (judged w items).value);
  main = main_number w;
}

abbrev pub typed_of : Ast → Typed
typed_of a = typed_by (whole_of a.names a.items) a.items
