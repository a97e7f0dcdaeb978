-- What expressions do (C99 6.5), one clause a form. Operands come in the order of the text. A place comes to the pointer to it.
use Rattle.std.specs.Prelude.{refl, ℕ, ◌+◌, ◌-◌, nat_eq, if◌then◌else◌, pos, Bool, true, false, List, [], ◌∷◌, map, get_or, slice_get, Option, Some, None}
use Rattle.c_ast.specs.declared.expr.BinaryOp.{BinaryOp}
use Rattle.c_typed.specs.Types.{words_of}
use Rattle.c_typed.specs.IsWell.{sizes_in}
use Rattle.c_typed.specs.declared.types.BaseType.{BaseType}
use Rattle.c_typed.specs.declared.types.ObjectType.{ObjectType}
use Rattle.c_typed.specs.declared.types.ExprType.{ExprType}
use Rattle.c_typed.specs.declared.expr.PrefixOp.{PrefixOp}
use Rattle.c_typed.specs.declared.expr.Expr.{fold-Expr, Expr}
use Rattle.c_typed.specs.declared.expr.Form.TheOpen.{Form-F}
use Rattle.c_typed.specs.declared.program.Struct.{Struct}
use Rattle.obj_mem.specs.declared.Maker.{Maker}
use Rattle.obj_mem.specs.declared.value.Value.{Value}
use Rattle.obj_mem.specs.declared.event.Event.{Event}
use Rattle.obj_mem.specs.Objects.{whole_of}
use Rattle.obj_mem.specs.Opening.{global_of}
use Rattle.obj_mem.specs.Values.{part_of, items_of}
use Rattle.obj_mem.specs.Asked.{new_event}
use Rattle.src_law.specs.Acts.{Kind, a_value, a_truth, some_values, Act, ◌▷◌}
use Rattle.src_law.specs.Operators.{wrong, needed, number_of, is_true, prefixed, moved_by, operated}

-- What the parts of a function depend on.
pub record Around : Type 0 where
  pub structs : List Struct
  -- the words of each global
  pub globals : List ℕ
  -- the maker of the frame
  pub maker : Maker
  -- the site of the function's first variable, and the words of each
  pub site : ℕ
  pub variables : List ℕ
  -- the first heap site of the program
  pub heap : ℕ

abbrev pub sizes : Around → List ℕ
sizes c = sizes_in c.structs

-- an expression with its type, by which its value is tested, moved and compared
pub record Meant : Type 0 where
  pub typing : ExprType
  pub act : Act a_value

-- Places.

abbrev pub global_place : Around → ℕ → Value
global_place c v = whole_of (global_of v (get_or c.globals v 0))

abbrev pub local_place : Around → ℕ → Value
local_place c v = whole_of (record { site = c.site + v; maker = c.maker; len = get_or c.variables v 0 })

-- what stands at a place, or behind a pointer
abbrev pub an_int : ObjectType
an_int = record { base = BaseType.Int; stars = 0; lengths = [] }

abbrev pub object_of : ExprType → ObjectType
object_of (ExprType.Place t) = t
object_of (ExprType.Pointer t) = t
object_of _ = an_int

abbrev pub struct_fields : Option Struct → List ObjectType
struct_fields None = []
struct_fields (Some s) = s.fields

abbrev pub fields_of : List Struct → BaseType → List ObjectType
fields_of structs (BaseType.Struct k) = struct_fields (slice_get structs k)
fields_of structs _ = []

-- the words before field k, by those of each field
abbrev pub words_before : List ℕ → ℕ → ℕ
words_before [] k = 0
words_before (n ∷ ns) k = if nat_eq k 0 then 0 else n + words_before ns (k - 1)

-- field k of a struct of this type
abbrev pub field_of : Around → ObjectType → ℕ → Value → Act a_value
field_of c t k p =
    let fields = map (words_of (sizes c)) (fields_of c.structs t.base) in
    needed (part_of (words_of (sizes c) t) (words_before fields k) (get_or fields k 0) p)

-- Truth values.

abbrev pub truth : Meant → Act a_truth
truth e = e.act ▷ is_true e.typing

-- one of two, by a truth value
abbrev pub chosen : {k : Kind} → Act k → Act k → Bool → Act k
chosen a b true = a
chosen a b false = b

abbrev pub both : Meant → Meant → Act a_truth
both l r = truth l ▷ chosen (truth r) (Act.gives false)

abbrev pub either : Meant → Meant → Act a_truth
either l r = truth l ▷ chosen (Act.gives true) (truth r)

abbrev pub counted : Act a_truth → Act a_value
counted a = a ▷ λ b. Act.gives (number_of b)

abbrev pub computed_by : Around → BinaryOp → Meant → Meant → Act a_value
computed_by c op l r = l.act ▷ λ v. r.act ▷ λ w. operated (sizes c) op l.typing r.typing v w

abbrev pub binary : Around → BinaryOp → Meant → Meant → Act a_value
binary c BinaryOp.And l r = counted (both l r)
binary c BinaryOp.Or l r = counted (either l r)
binary c op l r = computed_by c op l r

-- Calls and blocks.

-- the values of some, in turn
abbrev pub each_value : List (Act a_value) → Act some_values
each_value [] = Act.gives []
each_value (a ∷ rest) = a ▷ λ v. each_value rest ▷ λ vs. Act.gives (v ∷ vs)

abbrev pub made_new : Event → Act a_value
made_new (Event.New site items words) = Act.does (Event.New site items words) refl
made_new e = wrong

abbrev pub values_of : List Meant → Act some_values
values_of es = each_value (map (λ e. e.act) es)

abbrev pub calls : ℕ → List Meant → Act a_value
calls f es = values_of es ▷ Act.calls f

-- without a count it is one
abbrev pub count_of : Option Meant → Act a_value
count_of None = Act.gives (Value.Int (pos 1))
count_of (Some e) = e.act

abbrev pub makes : Around → ℕ → ObjectType → Option Meant → Act a_value
makes c site item count = count_of count ▷ λ k. made_new (new_event (c.heap + site) (words_of (sizes c) item) k)

-- Places and what is made of them.

abbrev pub indexed : Around → Meant → Meant → Act a_value
indexed c p i = p.act ▷ λ v. i.act ▷ λ k. moved_by (sizes c) (object_of p.typing) v k

abbrev pub with_field : Around → Meant → ℕ → Act a_value
with_field c whole k = whole.act ▷ field_of c (object_of whole.typing) k

abbrev pub read : Meant → Act a_value
read place = place.act ▷ λ p. Act.does (Event.Rd p) refl

abbrev pub decayed : Around → Meant → Act a_value
decayed c place = place.act ▷ λ p. needed (items_of (words_of (sizes c) (object_of place.typing)) p)

abbrev pub with_prefix : PrefixOp → Meant → Act a_value
with_prefix op e = e.act ▷ prefixed op e.typing

-- One level of an expression.
abbrev pub form : Around → Form-F (Act a_value) Meant → Act a_value
form c (Form-F.Global v) = Act.gives (global_place c v)
form c (Form-F.Local v) = Act.gives (local_place c v)
form c (Form-F.Deref p) = p.act
form c (Form-F.Index p i) = indexed c p i
form c (Form-F.Field whole k) = with_field c whole k
form c (Form-F.Arrow p k) = with_field c p k
form c (Form-F.Number k) = Act.gives (Value.Int k)
form c Form-F.Null = Act.gives Value.Null
form c (Form-F.Read place) = read place
form c (Form-F.Decay place) = decayed c place
form c (Form-F.Address place) = place.act
form c (Form-F.Prefix op e) = with_prefix op e
form c (Form-F.Binary l op r) = binary c op l r
form c (Form-F.Call f arguments) = calls f arguments
form c Form-F.GetInt = Act.does Event.In refl
form c Form-F.Left = Act.does Event.Left refl
form c (Form-F.New site item count) = makes c site item count

unfoldable pub expr : Around → Expr → Meant
expr c = fold-Expr (Act a_value) Meant (form c) (λ e. record { typing = e.typing; act = e.form })
