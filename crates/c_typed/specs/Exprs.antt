-- Expressions (C99 6.5), one case for each form.
use Rattle.std.specs.Prelude.{ℕ, zero, suc, ◌+◌, Bool, true, false, ◌&&◌, ◌||◌, nat_eq, List, [], ◌∷◌, ◌++◌, map, Option, Some, None, get_or}
use Rattle.dfi_base.specs.declared.numbers.Line.{Line}
use Rattle.c_ast.specs.declared.ident.Ident.{Ident}
use Rattle.c_ast.specs.declared.expr.UnaryOp.{UnaryOp}
use Rattle.c_ast.specs.declared.expr.BinaryOp.{BinaryOp}
use Rattle.c_ast.specs.declared.expr.Expr.{fold-Expr, Expr as SourceExpr}
use Rattle.c_ast.specs.declared.expr.Form.TheOpen.{Form-F as Source}
use Rattle.c_typed.specs.declared.types.ObjectType.{ObjectType}
use Rattle.c_typed.specs.declared.types.BaseType.{BaseType}
use Rattle.c_typed.specs.declared.types.ExprType.{ExprType}
use Rattle.c_typed.specs.declared.expr.PrefixOp.{PrefixOp}
use Rattle.c_typed.specs.declared.expr.Expr.{Expr}
use Rattle.c_typed.specs.declared.expr.Form.{Form, roll-Form}
use Rattle.c_typed.specs.declared.expr.Form.TheOpen.{Form-F}
use Rattle.c_typed.specs.Types.{value_type, scalar_type, place_of_type, is_unknown, fits, accepts, suits, is_truth}
use Rattle.c_typed.specs.Marks.{History, Variable}
use Rattle.c_typed.specs.Whole.{Whole, Member, Signature, Builtin, Meaning, meaning, is_main}
use Rattle.c_typed.specs.Faults.{Fault, unknown, mismatch, not_lvalue}
use Rattle.c_typed.specs.Parts.{Judged, Part, given, tokens, joined, obeys, refused, separated, ◌⊗◌, ◌<⊗◌, ◌⊗>◌, ◌<$>◌}
use Rattle.c_typed.specs.Tags.{type_name}

-- One level of a typed expression.
abbrev pub Layer : Type 0
Layer = Form-F Form Expr

abbrev pub made : ExprType → Layer → Expr
made t layer = record { typing = t; form = roll-Form layer }

-- What `malloc` is asked for.
pub record Size : Type 0 where
  pub item : ObjectType
  pub count : Option Expr

abbrev pub one_of : ObjectType → Size
one_of t = record { item = t; count = None }

abbrev pub many_of : Expr → ObjectType → Size
many_of e t = record { item = t; count = Some e }

-- How an expression may be read, before it is known what it is wanted for.
pub record Reading : Type 0 where
  -- of its first token
  pub line : Line
  -- a place or a value
  pub plain : Part Expr
  -- it is a call of this name
  pub calls : Option ℕ
  -- it is `sizeof` of a type
  pub sizeof : Option (Part ObjectType)
  -- it is of the form of `malloc`'s argument
  pub size : Option (Part Size)

abbrev pub reading : Line → Part Expr → Reading
reading line p = record { line = line; plain = p; calls = None; sizeof = None; size = None }

-- The value of an expression: what stands at a place is read, an array's is the pointer to its first item.
abbrev pub taken : Expr → ObjectType → List ℕ → ExprType → Expr
taken e t [] v = made v (Form-F.Read e)
taken e t (n ∷ ns) v = made v (Form-F.Decay e)

abbrev pub value_by_type : Expr → ExprType → Option Expr
value_by_type e (ExprType.Place t) = elim (value_type t) [ None ↦ None | Some v ↦ Some (taken e t t.lengths v) ]
value_by_type e _ = Some e

abbrev pub value : Reading → Part Expr
value r = obeys mismatch r.line (λ h e. value_by_type e e.typing) r.plain

-- the expression as a place
abbrev pub place_by_type : Expr → ExprType → Option Expr
place_by_type e (ExprType.Place t) = Some e
place_by_type e ExprType.Unknown = Some e
place_by_type e _ = None

abbrev pub place : Reading → Part Expr
place r = obeys not_lvalue r.line (λ h e. place_by_type e e.typing) r.plain

-- two operands with a token between
abbrev pub operands : Reading → Reading → Part (Expr × Expr)
operands l r = value l <⊗ tokens 1 ⊗ value r

-- What is built of an operand without a type has none.
abbrev pub untyped : Layer → Expr
untyped layer = made ExprType.Unknown layer

abbrev pub unless_untyped : Bool → Layer → Option Expr → Option Expr
unless_untyped b layer e = elim b [ true ↦ Some (untyped layer) | false ↦ e ]

-- Types of operators.
abbrev pub of_ints : ExprType → ExprType → Option ExprType
of_ints ExprType.Int ExprType.Int = Some ExprType.Int
of_ints _ _ = None

abbrev pub of_truths : ExprType → ExprType → Option ExprType
of_truths s t = elim (is_truth s && is_truth t) [ true ↦ Some ExprType.Int | false ↦ None ]

abbrev pub of_sum : ExprType → ExprType → Option ExprType
of_sum ExprType.Int ExprType.Int = Some ExprType.Int
of_sum (ExprType.Pointer t) ExprType.Int = Some (ExprType.Pointer t)
of_sum ExprType.Int (ExprType.Pointer t) = Some (ExprType.Pointer t)
of_sum _ _ = None

abbrev pub of_difference : ExprType → ExprType → Option ExprType
of_difference ExprType.Int ExprType.Int = Some ExprType.Int
of_difference (ExprType.Pointer t) ExprType.Int = Some (ExprType.Pointer t)
of_difference _ _ = None

-- two ints, two pointers of one type, or null beside a pointer or null
abbrev pub are_equal_types : ExprType → ExprType → Bool
are_equal_types ExprType.Null ExprType.Null = true
are_equal_types s t = suits s t || suits t s

abbrev pub of_equality : ExprType → ExprType → Option ExprType
of_equality s t = elim (are_equal_types s t) [ true ↦ Some ExprType.Int | false ↦ None ]

abbrev pub binary_type : BinaryOp → ExprType → ExprType → Option ExprType
binary_type BinaryOp.Or s t = of_truths s t
binary_type BinaryOp.And s t = of_truths s t
binary_type BinaryOp.Equal s t = of_equality s t
binary_type BinaryOp.NotEqual s t = of_equality s t
binary_type BinaryOp.Add s t = of_sum s t
binary_type BinaryOp.Sub s t = of_difference s t
binary_type _ s t = of_ints s t

abbrev pub binary : BinaryOp → Expr → Expr → Option Expr
binary op e f =
    unless_untyped (is_unknown e.typing || is_unknown f.typing) (Form-F.Binary e op f)
    (elim (binary_type op e.typing f.typing) [ None ↦ None | Some t ↦ Some (made t (Form-F.Binary e op f)) ])

abbrev pub int_prefix : PrefixOp → Expr → ExprType → Option Expr
int_prefix op e ExprType.Int = Some (made ExprType.Int (Form-F.Prefix op e))
int_prefix op e ExprType.Unknown = Some (untyped (Form-F.Prefix op e))
int_prefix op e _ = None

abbrev pub plus : Expr → ExprType → Option Expr
plus e ExprType.Int = Some e
plus e ExprType.Unknown = Some e
plus e _ = None

abbrev pub negation : Expr → Option Expr
negation e =
    unless_untyped (is_unknown e.typing) (Form-F.Prefix PrefixOp.Not e)
    (elim (is_truth e.typing) [ true ↦ Some (made ExprType.Int (Form-F.Prefix PrefixOp.Not e)) | false ↦ None ])

abbrev pub pointed_at : Expr → ExprType → Option Expr
pointed_at e (ExprType.Pointer t) = Some (made (ExprType.Place t) (Form-F.Deref e))
pointed_at e ExprType.Unknown = Some (untyped (Form-F.Deref e))
pointed_at e _ = None

-- an array has no address
abbrev pub address_by : Expr → ObjectType → List ℕ → Option Expr
address_by e t [] = Some (made (ExprType.Pointer t) (Form-F.Address e))
address_by e t (n ∷ ns) = None

abbrev pub address : Expr → ExprType → Option Expr
address e (ExprType.Place t) = address_by e t t.lengths
address e ExprType.Unknown = Some (untyped (Form-F.Address e))
address e _ = None

abbrev pub unary : UnaryOp → Line → Reading → Part Expr
unary UnaryOp.Minus line r = obeys mismatch line (λ h e. int_prefix PrefixOp.Minus e e.typing) (tokens 1 ⊗> value r)
unary UnaryOp.Plus line r = obeys mismatch line (λ h e. plus e e.typing) (tokens 1 ⊗> value r)
unary UnaryOp.Not line r = obeys mismatch line (λ h e. negation e) (tokens 1 ⊗> value r)
unary UnaryOp.Complement line r = obeys mismatch line (λ h e. int_prefix PrefixOp.Complement e e.typing) (tokens 1 ⊗> value r)
unary UnaryOp.Deref line r = obeys mismatch line (λ h e. pointed_at e e.typing) (tokens 1 ⊗> value r)
unary UnaryOp.Address line r = obeys mismatch line (λ h e. address e e.typing) (tokens 1 ⊗> place r)

abbrev pub item_by : Expr → Expr → ExprType → ExprType → Option Expr
item_by p i (ExprType.Pointer t) ExprType.Int = Some (made (ExprType.Place t) (Form-F.Index p i))
item_by p i _ _ = None

abbrev pub item_at : Expr → Expr → ExprType → ExprType → Option Expr
item_at p i s t = unless_untyped (is_unknown s || is_unknown t) (Form-F.Index p i) (item_by p i s t)

-- Fields: the whole is a struct, or a pointer to one, and its struct has a field of the name. What has no type has any field.
abbrev pub struct_by : ObjectType → BaseType → ℕ → List ℕ → Option ℕ
struct_by t (BaseType.Struct k) zero [] = Some k
struct_by t _ _ _ = None

abbrev pub struct_of : ObjectType → Option ℕ
struct_of t = struct_by t t.base t.stars t.lengths

abbrev pub known_struct : Option ℕ → Option (Option ℕ)
known_struct None = None
known_struct (Some k) = Some (Some k)

abbrev pub struct_at : ExprType → Option (Option ℕ)
struct_at (ExprType.Place t) = known_struct (struct_of t)
struct_at ExprType.Unknown = Some None
struct_at _ = None

abbrev pub struct_behind : ExprType → Option (Option ℕ)
struct_behind (ExprType.Pointer t) = known_struct (struct_of t)
struct_behind ExprType.Unknown = Some None
struct_behind _ = None

abbrev pub with_struct : Expr → Option (Option ℕ) → Option (Expr × Option ℕ)
with_struct e None = None
with_struct e (Some k) = Some (e, k)

-- the number and the type of a field
abbrev pub field_by : ℕ → ℕ → List Member → Option (ℕ × ObjectType)
field_by x n [] = None
field_by x n (m ∷ ms) = elim (nat_eq x m.name) [ true ↦ Some (n, m.object) | false ↦ field_by x (suc n) ms ]

abbrev pub found_by : Ident → (Expr → ℕ → Layer) → ℕ → List Fault → Expr → Option (ℕ × ObjectType) → Judged Expr
found_by f form at faults e None = record { faults = faults ++ record { at = at; rule = unknown; line = f.line } ∷ []; value = None }
found_by f form at faults e (Some m) = record { faults = faults; value = Some (made (place_of_type m.1) (form e m.0)) }

abbrev pub in_struct : Whole → Ident → (Expr → ℕ → Layer) → ℕ → List Fault → Expr → Option ℕ → Judged Expr
in_struct w f form at faults e None = record { faults = faults; value = Some (untyped (form e 0)) }
in_struct w f form at faults e (Some k) = found_by f form at faults e (field_by f.name 0 (get_or w.structs k []))

abbrev pub fielded : Whole → Ident → (Expr → ℕ → Layer) → ℕ → List Fault → Option (Expr × Option ℕ) → Judged Expr
fielded w f form at faults None = record { faults = faults; value = None }
fielded w f form at faults (Some e) = in_struct w f form at faults e.0 e.1

abbrev pub field_of : Whole → Ident → (Expr → ℕ → Layer) → Part (Expr × Option ℕ) → Part Expr
field_of w f form p = record {
  tokens = p.tokens + 2;
  marks = p.marks;
  judge = λ here. fielded w f form (here.at + p.tokens + 1) (p.judge here).faults (p.judge here).value;
}

-- A name: a variable. A function is none.
abbrev pub name_as : Ident → Meaning → Part Expr
name_as i (Meaning.object (Variable.global k t)) = given (made (place_of_type t) (Form-F.Global k))
name_as i (Meaning.object (Variable.local k t)) = given (made (place_of_type t) (Form-F.Local k))
name_as i Meaning.nothing = refused unknown i.line (tokens 0)
name_as i _ = refused mismatch i.line (tokens 0)

abbrev pub name : Whole → Ident → Part Expr
name w i = record { tokens = 1; marks = []; judge = λ here. (name_as i (meaning w here.before i.name)).judge here }

-- Calls.
abbrev pub all_fit : List Expr → List ObjectType → Bool
all_fit [] [] = true
all_fit (e ∷ es) (t ∷ ts) = accepts e.typing t && all_fit es ts
all_fit _ _ = false

-- a result of a struct type, which is a fault of its own, has no type
abbrev pub called_type : Option ObjectType → ExprType
called_type None = ExprType.Void
called_type (Some t) = elim (scalar_type t) [ None ↦ ExprType.Unknown | Some v ↦ v ]

abbrev pub applied : ℕ → Signature → List Expr → Option Expr
applied k s es = elim (all_fit es s.parameters) [ true ↦ Some (made (called_type s.result) (Form-F.Call k es)) | false ↦ None ]

abbrev pub asked : Layer → List Expr → Option Expr
asked layer [] = Some (made ExprType.Int layer)
asked layer _ = None

-- what `putint` and `free` are asked for
abbrev pub put_by : Expr → ExprType → Option Expr
put_by e ExprType.Int = Some e
put_by e ExprType.Unknown = Some e
put_by e _ = None

abbrev pub put : List Expr → Option Expr
put (e ∷ []) = put_by e e.typing
put _ = None

abbrev pub freed_by : Expr → ExprType → Option Expr
freed_by e (ExprType.Pointer t) = Some e
freed_by e ExprType.Null = Some e
freed_by e ExprType.Unknown = Some e
freed_by e _ = None

abbrev pub freed : List Expr → Option Expr
freed (e ∷ []) = freed_by e e.typing
freed _ = None

-- They have no value, and are statements: what stands for them in an expression fits nothing.
abbrev pub no_value : Expr
no_value = made ExprType.Void Form-F.Null

-- (its site is numbered when all are known)
abbrev pub allocated : Size → Option Expr
allocated s =
    let e = made (ExprType.Pointer s.item) (Form-F.New 0 s.item s.count) in
    elim s.count [ None ↦ Some e | Some n ↦ elim n.typing [ ExprType.Int ↦ Some e | ExprType.Unknown ↦ Some e | _ ↦ None ] ]

abbrev pub arguments : List Reading → Part (List Expr)
arguments rs = separated (map value rs)

-- the name and a parenthesis, the arguments, and the closing one
abbrev pub called : {A : Type 0} → Part A → Part A
called p = tokens 2 ⊗> p <⊗ tokens 1

abbrev pub allocation_by : Line → List Reading → Option (Part Size) → Part Expr
allocation_by line rs None = refused mismatch line (called (arguments rs))
allocation_by line rs (Some p) = obeys mismatch line (λ h s. allocated s) (called p)

abbrev pub allocation : Line → List Reading → Part Expr
allocation line (r ∷ []) = allocation_by line (r ∷ []) r.size
allocation line rs = allocation_by line rs None

-- a fault of the name has the line of the name, a fault of the call that of its first token
abbrev pub call_as : Whole → Line → Ident → List Reading → Meaning → Part Expr
call_as w line f rs (Meaning.object v) = refused mismatch f.line (called (arguments rs))
call_as w line f rs Meaning.nothing = refused unknown f.line (called (arguments rs))
call_as w line f rs (Meaning.function k s) =
    elim (is_main w f.name) [
      | true ↦ refused mismatch f.line (called (arguments rs))
      | false ↦ obeys mismatch line (λ h es. applied k s es) (called (arguments rs))
    ]
call_as w line f rs (Meaning.builtin Builtin.getint) = obeys mismatch line (λ h es. asked Form-F.GetInt es) (called (arguments rs))
call_as w line f rs (Meaning.builtin Builtin.left) = obeys mismatch line (λ h es. asked Form-F.Left es) (called (arguments rs))
call_as w line f rs (Meaning.builtin Builtin.putint) = (λ _. no_value) <$> obeys mismatch line (λ h es. put es) (called (arguments rs))
call_as w line f rs (Meaning.builtin Builtin.free) = (λ _. no_value) <$> obeys mismatch line (λ h es. freed es) (called (arguments rs))
call_as w line f rs (Meaning.builtin Builtin.malloc) = allocation line rs

abbrev pub call : Whole → Line → Ident → List Reading → Part Expr
call w line f rs = record {
  tokens = (called (arguments rs)).tokens;
  marks = [];
  judge = λ here. (call_as w line f rs (meaning w here.before f.name)).judge here;
}

-- A cast stands before a call of `malloc`, and names the type of its pointer.
abbrev pub is_malloc : Meaning → Bool
is_malloc (Meaning.builtin Builtin.malloc) = true
is_malloc _ = false

abbrev pub cast_by : Whole → History → Option ℕ → ObjectType → Expr → Option Expr
cast_by w h None t e = None
cast_by w h (Some f) t e = elim (is_malloc (meaning w h f) && fits e.typing t) [ true ↦ Some e | false ↦ None ]

-- `e * sizeof(T)` and `sizeof(T) * e`
abbrev pub counted_by : Reading → Reading → Option (Part ObjectType) → Option (Part ObjectType) → Option (Part Size)
counted_by left right o (Some p) = Some (joined many_of (value left <⊗ tokens 1) p)
counted_by left right (Some p) None = Some (joined (λ t e. many_of e t) (p <⊗ tokens 1) (value right))
counted_by left right None None = None

abbrev pub counted : Reading → Reading → Option (Part Size)
counted left right = counted_by left right left.sizeof right.sizeof

abbrev pub product : BinaryOp → Reading → Reading → Option (Part Size)
product BinaryOp.Mul left right = counted left right
product _ left right = None

-- One level of an expression, with the readings of its operands.
abbrev pub form_step : Whole → Source (Line → Reading) Reading → Line → Reading
form_step w (Source.Binary left op right) line = record {
  line = line;
  plain = obeys mismatch line (λ h e. binary op e.0 e.1) (operands left right);
  calls = None;
  sizeof = None;
  size = product op left right;
}
form_step w (Source.Unary op operand) line = reading line (unary op line operand)
form_step w (Source.Cast to operand) line =
    reading line (obeys mismatch line (λ h e. cast_by w h operand.calls e.0 e.1) (tokens 1 ⊗> type_name w to <⊗ tokens 1 ⊗ value operand))
form_step w (Source.Index array index) line =
    reading line (obeys mismatch line (λ h e. item_at e.0 e.1 e.0.typing e.1.typing) (operands array index <⊗ tokens 1))
form_step w (Source.Field whole f) line =
    reading line (field_of w f Form-F.Field (obeys mismatch line (λ h e. with_struct e (struct_at e.typing)) whole.plain))
form_step w (Source.Arrow pointer f) line =
    reading line (field_of w f Form-F.Arrow (obeys mismatch line (λ h e. with_struct e (struct_behind e.typing)) (value pointer)))
form_step w (Source.Number k) line = reading line ((λ _. made ExprType.Int (Form-F.Number k)) <$> tokens 1)
form_step w Source.Null line = reading line ((λ _. made ExprType.Null Form-F.Null) <$> tokens 1)
form_step w (Source.Name i) line = reading line (name w i)
form_step w (Source.Call f rs) line = record { line = line; plain = call w line f rs; calls = Some f.name; sizeof = None; size = None }
form_step w (Source.Sizeof t) line =
    let p = tokens 2 ⊗> type_name w t <⊗ tokens 1 in
    record { line = line; plain = obeys mismatch line (λ h _. None) p; calls = None; sizeof = Some p; size = Some (one_of <$> p) }

unfoldable pub expr : Whole → SourceExpr → Reading
expr w = fold-Expr (Line → Reading) Reading (form_step w) (λ e. e.form e.line)
