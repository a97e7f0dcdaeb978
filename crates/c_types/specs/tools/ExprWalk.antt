-- What the code finds of an expression, one case for each form. A tool of proof.
use Rattle.std.specs.Prelude.{ℕ, suc, Bool, true, false, ◌&&◌, nat_eq, List, [], ◌∷◌, Option, Some, None, slice_get, Ok}
use Rattle.dfi_base.specs.declared.numbers.Line.{Line}
use Rattle.c_ast.specs.declared.ident.Ident.{Ident}
use Rattle.c_ast.specs.declared.decl.TypeName.{TypeName}
use Rattle.c_ast.specs.declared.expr.UnaryOp.{UnaryOp}
use Rattle.c_ast.specs.declared.expr.BinaryOp.{BinaryOp}
use Rattle.c_ast.specs.declared.expr.Expr.{fold-Expr, Expr as SourceExpr}
use Rattle.c_ast.specs.declared.expr.Form.TheOpen.{Form-F as Source}
use Rattle.c_typed.specs.declared.types.ObjectType.{ObjectType}
use Rattle.c_typed.specs.declared.types.ExprType.{ExprType}
use Rattle.c_typed.specs.declared.expr.PrefixOp.{PrefixOp}
use Rattle.c_typed.specs.declared.expr.Expr.{Expr}
use Rattle.c_typed.specs.declared.expr.Form.TheOpen.{Form-F}
use Rattle.c_types.specs.declared.outline.Spelling.{Spelling}
use Rattle.c_types.specs.declared.outline.Member.{Member}
use Rattle.c_types.specs.declared.outline.Signature.{Signature}
use Rattle.c_types.specs.declared.outline.Outline.{Outline}
use Rattle.c_types.specs.declared.scopes.Home.{Home}
use Rattle.c_types.specs.declared.scopes.Binding.{Binding}
use Rattle.c_types.specs.declared.known.Known.{Known}
use Rattle.c_typed.specs.Types.{fits, place_of_type}
use Rattle.c_types.specs.tools.Tables.{looked}
use Rattle.c_typed.specs.Faults.{unknown, mismatch, not_lvalue}
use Rattle.c_typed.specs.Exprs.{made, untyped, Layer, Size, one_of, many_of, value_by_type, place_by_type, binary, int_prefix, plus, negation, pointed_at, address, item_at, struct_at, struct_behind, all_fit, called_type, asked, put_by, freed_by, no_value}
use Rattle.c_types.specs.tools.Steps.{Found, ◌>>=◌, broken, kept}
use Rattle.c_types.specs.tools.Outlines.{spelled, bound, means_malloc, type_name_walk}

-- What is found of an expression, before it is known what it is wanted for.
pub record Finding : Type 0 where
  pub line : Line
  pub plain : Found Expr
  pub calls : Option ℕ
  pub sizeof : Option (Found ObjectType)
  pub size : Option (Found Size)

abbrev pub finding : Line → Found Expr → Finding
finding line p = record { line = line; plain = p; calls = None; sizeof = None; size = None }

abbrev pub value : Finding → Found Expr
value f = f.plain >>= (λ e. kept mismatch f.line (value_by_type e e.typing))

abbrev pub place : Finding → Found Expr
place f = f.plain >>= (λ e. kept not_lvalue f.line (place_by_type e e.typing))

abbrev pub binary_walk : BinaryOp → Line → Finding → Finding → Found Expr
binary_walk op line l r = value l >>= (λ e. value r >>= (λ f. kept mismatch line (binary op e f)))

abbrev pub unary_walk : UnaryOp → Line → Finding → Found Expr
unary_walk UnaryOp.Minus line f = value f >>= (λ e. kept mismatch line (int_prefix PrefixOp.Minus e e.typing))
unary_walk UnaryOp.Plus line f = value f >>= (λ e. kept mismatch line (plus e e.typing))
unary_walk UnaryOp.Not line f = value f >>= (λ e. kept mismatch line (negation e))
unary_walk UnaryOp.Complement line f = value f >>= (λ e. kept mismatch line (int_prefix PrefixOp.Complement e e.typing))
unary_walk UnaryOp.Deref line f = value f >>= (λ e. kept mismatch line (pointed_at e e.typing))
unary_walk UnaryOp.Address line f = place f >>= (λ e. kept mismatch line (address e e.typing))

abbrev pub index_walk : Line → Finding → Finding → Found Expr
index_walk line l r = value l >>= (λ e. value r >>= (λ f. kept mismatch line (item_at e f e.typing f.typing)))

-- Fields.
-- the index of the field of this name
abbrev pub index_by : ℕ → ℕ → List Member → Option ℕ
index_by x n [] = None
index_by x n (m ∷ ms) = elim (nat_eq x m.name) [ true ↦ Some n | false ↦ index_by x (suc n) ms ]

abbrev pub object_at : Ident → List Member → ℕ → Found (ℕ × ObjectType)
object_at f ms n = elim (slice_get ms n) [ None ↦ broken unknown f.line | Some m ↦ Ok (n, m.object) ]

abbrev pub member_in : Ident → List Member → Found (ℕ × ObjectType)
member_in f ms = elim (index_by f.name 0 ms) [ None ↦ broken unknown f.line | Some n ↦ object_at f ms n ]

abbrev pub member_walk : Outline → ℕ → Ident → Found (ℕ × ObjectType)
member_walk o k f = elim (slice_get o.shapes k) [ None ↦ broken unknown f.line | Some s ↦ member_in f s.members ]

abbrev pub field_node : (Expr → ℕ → Layer) → Expr → ℕ × ObjectType → Expr
field_node form e m = made (place_of_type m.1) (form e m.0)

abbrev pub fielded : Outline → Line → Ident → (Expr → ℕ → Layer) → Expr → Option (Option ℕ) → Found Expr
fielded o line f form e None = broken mismatch line
fielded o line f form e (Some None) = Ok (untyped (form e 0))
fielded o line f form e (Some (Some k)) = member_walk o k f >>= (λ m. Ok (field_node form e m))

abbrev pub field_walk : Outline → Line → Finding → Ident → Found Expr
field_walk o line w f = w.plain >>= (λ e. fielded o line f Form-F.Field e (struct_at e.typing))

abbrev pub arrow_walk : Outline → Line → Finding → Ident → Found Expr
arrow_walk o line p f = value p >>= (λ e. fielded o line f Form-F.Arrow e (struct_behind e.typing))

-- Names.
abbrev pub home_form : Home → ℕ → Layer
home_form Home.Global k = Form-F.Global k
home_form Home.Local k = Form-F.Local k

abbrev pub variable_node : Binding → Expr
variable_node b = made (place_of_type b.object) (home_form b.home b.number)

-- a function's name, or a name that means nothing
abbrev pub unbound : Outline → Ident → Spelling → Option ℕ → Found Expr
unbound o i Spelling.Other None = broken unknown i.line
unbound o i Spelling.Main None = broken unknown i.line
unbound o i _ _ = broken mismatch i.line

abbrev pub name_by : Outline → Ident → Option Binding → Found Expr
name_by o i (Some b) = Ok (variable_node b)
name_by o i None = unbound o i (spelled o i.name) (looked o.numbers i.name)

abbrev pub name_walk : Outline → Known → Ident → Found Expr
name_walk o k i = name_by o i (bound k i.name)

-- Calls.
abbrev pub arguments : List Finding → Found (List Expr)
arguments [] = Ok []
arguments (f ∷ fs) = value f >>= (λ e. arguments fs >>= (λ es. Ok (e ∷ es)))

abbrev pub applied : ℕ → Signature → List Expr → Option Expr
applied k s es = elim (all_fit es s.parameters) [ true ↦ Some (made (called_type s.result) (Form-F.Call k es)) | false ↦ None ]

abbrev pub function_call : Line → ℕ → Option Signature → Ident → List Finding → Found Expr
function_call line k None f fs = broken unknown f.line
function_call line k (Some s) f fs = arguments fs >>= (λ es. kept mismatch line (applied k s es))

abbrev pub numbered_call : Outline → Line → Option ℕ → Ident → List Finding → Found Expr
numbered_call o line None f fs = broken unknown f.line
numbered_call o line (Some k) f fs = function_call line k (slice_get o.functions k) f fs

abbrev pub main_call : Option ℕ → Ident → Found Expr
main_call None f = broken unknown f.line
main_call (Some k) f = broken mismatch f.line

abbrev pub size_or : Line → Option (Found Size) → Found Size
size_or line None = broken mismatch line
size_or line (Some s) = s

abbrev pub new_by : ObjectType → Expr → ExprType → Option Expr
new_by t n ExprType.Int = Some (made (ExprType.Pointer t) (Form-F.New 0 t (Some n)))
new_by t n ExprType.Unknown = Some (made (ExprType.Pointer t) (Form-F.New 0 t (Some n)))
new_by t n _ = None

abbrev pub allocated_by : ObjectType → Option Expr → Option Expr
allocated_by t None = Some (made (ExprType.Pointer t) (Form-F.New 0 t None))
allocated_by t (Some n) = new_by t n n.typing

abbrev pub allocation : Line → List Finding → Found Expr
allocation line (f ∷ []) = size_or line f.size >>= (λ s. kept mismatch line (allocated_by s.item s.count))
allocation line _ = broken mismatch line

-- the only one of these
abbrev pub only : List Expr → Option Expr
only (e ∷ []) = Some e
only _ = None

abbrev pub put_only : Option Expr → Option Expr
put_only None = None
put_only (Some e) = put_by e e.typing

abbrev pub freed_only : Option Expr → Option Expr
freed_only None = None
freed_only (Some e) = freed_by e e.typing

-- what `putint` and `free` are asked for
abbrev pub put_walk : Line → List Finding → Found Expr
put_walk line fs = arguments fs >>= (λ es. kept mismatch line (put_only (only es)))

abbrev pub free_walk : Line → List Finding → Found Expr
free_walk line fs = arguments fs >>= (λ es. kept mismatch line (freed_only (only es)))

-- they have no value
abbrev pub unvalued : Found Expr → Found Expr
unvalued r = r >>= (λ _. Ok no_value)

abbrev pub spelled_call : Outline → Line → Spelling → Ident → List Finding → Found Expr
spelled_call o line Spelling.GetInt f fs = arguments fs >>= (λ es. kept mismatch line (asked Form-F.GetInt es))
spelled_call o line Spelling.Left f fs = arguments fs >>= (λ es. kept mismatch line (asked Form-F.Left es))
spelled_call o line Spelling.PutInt f fs = unvalued (put_walk line fs)
spelled_call o line Spelling.Free f fs = unvalued (free_walk line fs)
spelled_call o line Spelling.Malloc f fs = allocation line fs
spelled_call o line Spelling.Main f fs = main_call (looked o.numbers f.name) f
spelled_call o line Spelling.Other f fs = numbered_call o line (looked o.numbers f.name) f fs

abbrev pub call_by : Outline → Line → Option Binding → Ident → List Finding → Found Expr
call_by o line (Some b) f fs = broken mismatch f.line
call_by o line None f fs = spelled_call o line (spelled o f.name) f fs

abbrev pub call_walk : Outline → Known → Line → Ident → List Finding → Found Expr
call_walk o k line f fs = call_by o line (bound k f.name) f fs

-- A cast stands before a call of `malloc`.
abbrev pub calls_malloc : Outline → Known → Option ℕ → Bool
calls_malloc o k None = false
calls_malloc o k (Some x) = means_malloc o k x

abbrev pub cast : Bool → ObjectType → Expr → Option Expr
cast allocates t e = elim (allocates && fits e.typing t) [ true ↦ Some e | false ↦ None ]

abbrev pub cast_walk : Outline → Known → Line → ObjectType → Finding → Found Expr
cast_walk o k line t f = value f >>= (λ e. kept mismatch line (cast (calls_malloc o k f.calls) t e))

abbrev pub typed_cast_walk : Outline → Known → Line → TypeName → Finding → Found Expr
typed_cast_walk o k line to f = type_name_walk o k to >>= (λ t. cast_walk o k line t f)

-- `malloc`'s argument
abbrev pub counted_by : Finding → Finding → Option (Found ObjectType) → Option (Found ObjectType) → Option (Found Size)
counted_by left right o (Some p) = Some (value left >>= (λ e. p >>= (λ t. Ok (many_of e t))))
counted_by left right (Some p) None = Some (p >>= (λ t. value right >>= (λ e. Ok (many_of e t))))
counted_by left right None None = None

abbrev pub sizeof_as : Outline → Known → Option TypeName → Option (Found ObjectType)
sizeof_as o k None = None
sizeof_as o k (Some t) = Some (type_name_walk o k t)

abbrev pub count_first : Outline → Known → Line → Finding → TypeName → Found Expr
count_first o k line f t = value f >>= (λ e. type_name_walk o k t >>= (λ t. kept mismatch line (allocated_by t (Some e))))

abbrev pub type_first : Outline → Known → Line → TypeName → Finding → Found Expr
type_first o k line t f = type_name_walk o k t >>= (λ t. value f >>= (λ e. kept mismatch line (allocated_by t (Some e))))

abbrev pub is_mul : BinaryOp → Bool
is_mul BinaryOp.Mul = true
is_mul _ = false

abbrev pub multiplied : Bool → Finding → Finding → Option (Found Size)
multiplied true left right = counted_by left right left.sizeof right.sizeof
multiplied false left right = None

abbrev pub product : BinaryOp → Finding → Finding → Option (Found Size)
product op left right = multiplied (is_mul op) left right

-- One level of an expression, with what is found of its operands.
abbrev pub form_walk : Outline → Known → Source (Line → Finding) Finding → Line → Finding
form_walk o k (Source.Binary left op right) line =
    record { line = line; plain = binary_walk op line left right; calls = None; sizeof = None; size = product op left right }
form_walk o k (Source.Unary op operand) line = finding line (unary_walk op line operand)
form_walk o k (Source.Cast to operand) line = finding line (typed_cast_walk o k line to operand)
form_walk o k (Source.Index array index) line = finding line (index_walk line array index)
form_walk o k (Source.Field whole f) line = finding line (field_walk o line whole f)
form_walk o k (Source.Arrow pointer f) line = finding line (arrow_walk o line pointer f)
form_walk o k (Source.Number n) line = finding line (Ok (made ExprType.Int (Form-F.Number n)))
form_walk o k Source.Null line = finding line (Ok (made ExprType.Null Form-F.Null))
form_walk o k (Source.Name i) line = finding line (name_walk o k i)
form_walk o k (Source.Call f fs) line = record { line = line; plain = call_walk o k line f fs; calls = Some f.name; sizeof = None; size = None }
form_walk o k (Source.Sizeof t) line =
    let p = type_name_walk o k t in
    record {
      line = line;
      plain = p >>= (λ _. broken mismatch line);
      calls = None;
      sizeof = Some p;
      size = Some (p >>= (λ t. Ok (one_of t)));
    }

unfoldable pub expr_walk : Outline → Known → SourceExpr → Finding
expr_walk o k = fold-Expr (Line → Finding) Finding (form_walk o k) (λ e. e.form e.line)
