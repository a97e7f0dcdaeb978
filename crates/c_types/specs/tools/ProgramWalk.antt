-- What the code finds of the items of a program, and what is known behind them. A tool of proof.
use Rattle.std.specs.Prelude.{ℕ, suc, ℤ, neg_ℤ, ◌+◌, Bool, true, false, ◌&&◌, ◌||◌, not, nat_eq, nat_le, nat_lt, List, [], ◌∷◌, map, length, Option, Some, None, slice_get, is_some, Ok}
use Rattle.dfi_base.specs.declared.numbers.Line.{Line}
use Rattle.c_ast.specs.declared.ident.Ident.{Ident}
use Rattle.c_ast.specs.declared.decl.Base.{Base}
use Rattle.c_ast.specs.declared.decl.Declarator.{Declarator}
use Rattle.c_ast.specs.declared.decl.Decl.{Decl}
use Rattle.c_ast.specs.declared.decl.DeclItem.{DeclItem}
use Rattle.c_ast.specs.declared.decl.ResultType.{ResultType}
use Rattle.c_ast.specs.declared.decl.Params.{Params}
use Rattle.c_ast.specs.declared.decl.ProtoParams.{ProtoParams}
use Rattle.c_ast.specs.declared.expr.UnaryOp.{UnaryOp}
use Rattle.c_ast.specs.declared.expr.Expr.{Expr as SourceExpr}
use Rattle.c_ast.specs.declared.expr.Form.{Form as SourceForm}
use Rattle.c_ast.specs.declared.expr.Form.TheOpen.{Form-F as Source}
use Rattle.c_ast.specs.declared.program.Field.{Field}
use Rattle.c_ast.specs.declared.program.StructDef.{StructDef}
use Rattle.c_ast.specs.declared.program.Function.{Function as SourceFunction}
use Rattle.c_ast.specs.declared.program.Proto.{Proto}
use Rattle.c_ast.specs.declared.program.Item.{Item}
use Rattle.c_typed.specs.declared.fault.BigWhat.{BigWhat}
use Rattle.c_typed.specs.declared.fault.TypeFault.{TypeFault}
use Rattle.c_typed.specs.declared.types.ObjectType.{ObjectType}
use Rattle.c_typed.specs.declared.stmt.Stmt.{Stmt}
use Rattle.c_typed.specs.declared.program.Struct.{Struct}
use Rattle.c_typed.specs.declared.program.Function.{Function}
use Rattle.c_types.specs.declared.outline.Shape.{Shape}
use Rattle.c_types.specs.declared.outline.Signature.{Signature}
use Rattle.c_types.specs.declared.outline.Outline.{Outline}
use Rattle.c_types.specs.declared.known.Around.{Around}
use Rattle.c_types.specs.declared.known.Known.{Known}
use Rattle.c_typed.specs.Faults.{unknown, twice, mismatch, big, no_main, told_by}
use Rattle.c_typed.specs.Decls.{has_items, by_value}
use Rattle.c_typed.specs.Programs.{number_of, start_of, has_scalar_result, is_int, no_parameters, no_proto_parameters, same_objects, same_result, types_in, are_sound}
use Rattle.c_types.specs.declared.programs.Program.{Program}
use Rattle.c_types.specs.tools.Tables.{looked}
use Rattle.c_types.specs.tools.Steps.{Found, ◌>>=◌, broken, kept, unless_kept, each, every, if_some}
use Rattle.c_types.specs.tools.Outlines.{capped, words_of, declared_type, result_type, spelled, is_main, is_builtin, base_walk}
use Rattle.c_types.specs.tools.OutlineWalk.{outline_of}
use Rattle.c_types.specs.tools.KnownSteps.{entered, exited}
use Rattle.c_types.specs.tools.ProgramSteps.{nothing_known, struct_begun, is_field, field_declared, struct_ended, global_declared, function_begun, prototype_declared}
use Rattle.c_types.specs.tools.DeclWalk.{declarator_rule, parameter_type, params_walk, proto_params_walk}
use Rattle.c_types.specs.tools.StmtWalk.{Walk, source_items_walk}

-- Structs. A field whose name stands twice is told before its declarator's rule where both are said of one token.
abbrev pub field_first : Known → Declarator → Bool
field_first k d = nat_eq d.stars 0 && is_field k d.name.name

abbrev pub field_fault : Outline → Known → Ident → ObjectType → Option TypeFault
field_fault o k x t =
    elim (is_field k x.name) [
      | true ↦ Some (told_by twice x.line)
      | false ↦
          elim (nat_le (capped (words_of o t + k.declared.field_words)) 24576) [ true ↦ None | false ↦ Some (told_by (big BigWhat.Shape) x.line) ]
    ]

abbrev pub field_by : Outline → Declarator → ObjectType → Walk (Unit {0})
field_by o d t k =
    declarator_rule (field_first k d) d.line (has_items t.lengths) (field_fault o k d.name t) >>= (λ _. Ok (tt, field_declared o d.name t k))

abbrev pub field_item_walk : Outline → Base → Declarator → Walk (Unit {0})
field_item_walk o b d k = field_by o d (declared_type o b d) k

abbrev pub field_items_walk : Outline → Base → List Declarator → Walk (Unit {0})
field_items_walk o b ds k = every (field_item_walk o b) ds k

abbrev pub field_line_walk : Outline → Field → Walk (Unit {0})
field_line_walk o f k = base_walk o k (by_value f.items) f.base >>= (λ _. field_items_walk o f.base f.items k)

abbrev pub fields_walk : Outline → List Field → Walk (Unit {0})
fields_walk o fs k = every (field_line_walk o) fs k

abbrev pub struct_walk : Outline → StructDef → Walk (Unit {0})
struct_walk o d k =
    unless_kept (not (is_some (looked k.declared.tags d.tag.name))) twice d.tag.line
    (fields_walk o d.fields (struct_begun k) >>= (λ s. Ok (tt, struct_ended d.tag.name s.1)))

-- Globals.
abbrev pub is_taken : Outline → Known → ℕ → Bool
is_taken o k x =
    is_some (looked k.declared.global_names x) || is_some (looked k.declared.function_names x) || is_some (looked k.declared.prototype_names x)
    || is_builtin (spelled o x)

abbrev pub global_first : Outline → Known → Declarator → Bool
global_first o k d = nat_eq d.stars 0 && is_taken o k d.name.name

abbrev pub global_words_fault : Outline → Known → Ident → ObjectType → Option TypeFault
global_words_fault o k x t =
    elim (nat_le (words_of o t) 24576) [
      | false ↦ Some (told_by (big BigWhat.Shape) x.line)
      | true ↦
          elim (nat_le (capped (words_of o t + k.declared.global_words)) 8176) [ true ↦ None | false ↦ Some (told_by (big BigWhat.Globals) x.line) ]
    ]

abbrev pub global_fault : Outline → Known → Ident → ObjectType → Option TypeFault
global_fault o k x t =
    elim (is_taken o k x.name) [
      | true ↦ Some (told_by twice x.line)
      | false ↦ elim (is_main (spelled o x.name)) [ true ↦ Some (told_by mismatch x.line) | false ↦ global_words_fault o k x t ]
    ]

-- a number behind a sign
abbrev pub negated : Option ℤ → Option ℤ
negated k = elim k [ None ↦ None | Some n ↦ Some (neg_ℤ n) ]

abbrev pub signed : UnaryOp → Source SourceForm SourceExpr → Option ℤ
signed UnaryOp.Minus x = negated (number_of x)
signed _ x = None

-- what it starts with
abbrev pub started : Bool → Line → Bool → Option ℤ → Option TypeFault → Found ℤ
started first line holds None fault = declarator_rule first line false fault >>= (λ _. broken mismatch line)
started first line holds (Some n) fault = declarator_rule first line holds fault >>= (λ _. Ok n)

abbrev pub global_by : Outline → DeclItem → Declarator → ObjectType → Walk (Unit {0})
global_by o i d t k =
    started (global_first o k d) d.line (has_items t.lengths) (start_of t i.value) (global_fault o k d.name t)
    >>= (λ n. Ok (tt, global_declared o d.name t n k))

abbrev pub global_item_walk : Outline → Base → DeclItem → Walk (Unit {0})
global_item_walk o b i k = global_by o i i.declarator (declared_type o b i.declarator) k

abbrev pub global_items_walk : Outline → Base → List DeclItem → Walk (Unit {0})
global_items_walk o b is k = every (global_item_walk o b) is k

abbrev pub global_decl_walk : Outline → Decl → Walk (Unit {0})
global_decl_walk o d k =
    base_walk o k (by_value (map (λ i. i.declarator) d.items)) d.base >>= (λ _. global_items_walk o d.base d.items k)

-- Functions.
abbrev pub result_walk : Outline → Known → ResultType → Found (Unit {0})
result_walk o k (ResultType.Void line) = Ok tt
result_walk o k (ResultType.Type base stars) = base_walk o k (nat_eq stars 0) base

abbrev pub is_defined : Outline → Known → ℕ → Bool
is_defined o k x =
    is_some (looked k.declared.global_names x) || is_some (looked k.declared.function_names x) || is_builtin (spelled o x)

-- a function `main` has no parameters and answers an `int`
abbrev pub fits_main : Outline → ℕ → Bool → Bool
fits_main o x is_plain = not (is_main (spelled o x)) || is_plain

abbrev pub is_plain : SourceFunction → Bool
is_plain f = is_int f.result && no_parameters f.params

abbrev pub function_fits : Outline → SourceFunction → Option ObjectType → Bool
function_fits o f t = has_scalar_result t && fits_main o f.name.name (is_plain f)

abbrev pub function_name_walk : Outline → Known → SourceFunction → Option ObjectType → Found (Unit {0})
function_name_walk o k f t =
    unless_kept (not (is_defined o k f.name.name)) twice f.name.line
    (unless_kept (function_fits o f t) mismatch f.name.line (unless_kept (nat_lt k.declared.functions 256) (big BigWhat.Functions) f.name.line (Ok tt)))

abbrev pub around_body : Around
around_body = record { in_loop = false; in_branch = false }

abbrev pub function_body_walk : Outline → SourceFunction → Option ObjectType → Walk (List Stmt)
function_body_walk o f t k =
    params_walk o f.params (function_begun f.name.name t k) >>= (λ s. source_items_walk o around_body f.body.items s.1)

abbrev pub function_text_walk : Outline → SourceFunction → Option ObjectType → Walk (List Stmt)
function_text_walk o f t k = result_walk o k f.result >>= (λ _. function_name_walk o k f t >>= (λ _. function_body_walk o f t k))

abbrev pub parameter_count : Params → ℕ
parameter_count (Params.List ps) = length ps
parameter_count _ = 0

abbrev pub function_of : Outline → SourceFunction → List Stmt → Known → Function
function_of o f body k = record {
  line = f.name.line;
  result = result_type o f.result;
  parameters = parameter_count f.params;
  variables = k.frame.variables;
  body = body;
  close = f.body.close;
}

abbrev pub function_walk : Outline → SourceFunction → Walk Function
function_walk o f k = function_text_walk o f (result_type o f.result) k >>= (λ s. Ok (function_of o f s.0 s.1, exited s.1))

-- Prototypes.
abbrev pub proto_types : Outline → ProtoParams → List ObjectType
proto_types o (ProtoParams.List ps) = map (λ p. parameter_type o p.base p.stars p.brackets) ps
proto_types o _ = []

abbrev pub agrees : Option ObjectType → List ObjectType → Signature → Bool
agrees result types s =
    not (are_sound (types_in result types) && are_sound (types_in s.result s.parameters))
    || (same_result result s.result && same_objects types s.parameters)

abbrev pub defined_at : Outline → Option ℕ → Option Signature
defined_at o None = None
defined_at o (Some n) = slice_get o.functions n

abbrev pub defined : Outline → ℕ → Option Signature
defined o x = defined_at o (looked o.numbers x)

abbrev pub is_plain_proto : Proto → Bool
is_plain_proto p = is_int p.result && no_proto_parameters p.params

abbrev pub proto_fits : Outline → Proto → Option ObjectType → List ObjectType → Signature → Bool
proto_fits o p result types s =
    has_scalar_result result && agrees result types s && fits_main o p.name.name (is_plain_proto p)

abbrev pub is_known_otherwise : Outline → Known → ℕ → Bool
is_known_otherwise o k x = is_some (looked k.declared.global_names x) || is_builtin (spelled o x)

abbrev pub proto_name_walk : Outline → Known → Proto → Option Signature → Found (Unit {0})
proto_name_walk o k p None = broken unknown p.name.line
proto_name_walk o k p (Some s) =
    unless_kept (not (is_known_otherwise o k p.name.name)) twice p.name.line
    (unless_kept (proto_fits o p (result_type o p.result) (proto_types o p.params) s) mismatch p.name.line (Ok tt))

abbrev pub proto_scope_walk : Outline → Proto → Walk (Unit {0})
proto_scope_walk o p k = proto_params_walk o p.params (entered (prototype_declared p.name.name k)) >>= (λ s. Ok (tt, exited s.1))

abbrev pub proto_walk : Outline → Proto → Walk (Unit {0})
proto_walk o p k =
    result_walk o k p.result >>= (λ _. proto_name_walk o k p (defined o p.name.name) >>= (λ _. proto_scope_walk o p k))

-- The whole text.
abbrev pub no_function : Found ((Unit {0}) × Known) → Found (Option Function × Known)
no_function f = f >>= (λ s. Ok (None, s.1))

abbrev pub item_walk : Outline → Item → Walk (Option Function)
item_walk o (Item.Struct d) k = no_function (struct_walk o d k)
item_walk o (Item.Decl d) k = no_function (global_decl_walk o d k)
item_walk o (Item.Function f) k = function_walk o f k >>= (λ s. Ok (Some s.0, s.1))
item_walk o (Item.Proto p) k = no_function (proto_walk o p k)

abbrev pub items_walk : Outline → List Item → Walk (List Function)
items_walk o is k = each if_some (item_walk o) is k

-- the number of the first function whose name is `main`
abbrev pub is_main_function : Outline → Signature → Bool
is_main_function o s = is_main (spelled o s.name)

abbrev pub main_from : Outline → ℕ → List Signature → Option ℕ
main_from o n [] = None
main_from o n (s ∷ ss) = elim (is_main_function o s) [ true ↦ Some n | false ↦ main_from o (suc n) ss ]

abbrev pub main_walk : Outline → Line → Found ℕ
main_walk o last = kept no_main last (main_from o 0 o.functions)

abbrev pub struct_of : Shape → Struct
struct_of s = record { fields = map (λ m. m.object) s.members; words = s.words }

abbrev pub parts_of : Outline → List Function → Known → ℕ → Program
parts_of o fs k main = record { structs = map struct_of o.shapes; globals = k.declared.globals; functions = fs; main = main }

abbrev pub program_by : Outline → List Item → Line → Found Program
program_by o is last = items_walk o is nothing_known >>= (λ s. main_walk o last >>= (λ n. Ok (parts_of o s.0 s.1 n)))

abbrev pub program_walk : List (List ℕ) → List Item → Line → Found Program
program_walk names is last = program_by (outline_of names is) is last
