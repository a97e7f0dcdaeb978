-- Expressions (C99 6.5), one case for each form. Operands come in the order of the text.
use Rattle.std.specs.Prelude.{ℕ, ◌+◌, pos, Bool, true, false, List, [], ◌∷◌, ◌++◌, map, Option, Some, None}
use Rattle.c_ast.specs.declared.expr.BinaryOp.{BinaryOp}
use Rattle.c_typed.specs.declared.types.ObjectType.{ObjectType}
use Rattle.c_typed.specs.declared.types.ExprType.{ExprType}
use Rattle.c_typed.specs.declared.expr.PrefixOp.{PrefixOp}
use Rattle.c_typed.specs.declared.expr.Expr.{fold-Expr, Expr}
use Rattle.c_typed.specs.declared.expr.Form.TheOpen.{Form-F}
use Rattle.c_typed.specs.Types.{words_of}
pub use Rattle.c_typed.specs.IsWell.{sizes_in}
use Rattle.c_typed.specs.Elaboration as elaboration
use Rattle.c_typed.specs.Elaboration.{object_of, Truth, truth_of, Operation, Skips, skips}
use Rattle.tac_ir.specs.declared.code.Instr.{Instr}
use Rattle.tac_ir.specs.declared.code.BinOp.{BinOp}
use Rattle.tac_ir.specs.declared.code.UnOp.{UnOp}
use Rattle.tac_ir.specs.declared.code.Place.{Place}
use Rattle.tac_lower.specs.Parts.{Part, given, chained, gathered, ◌▷◌, ◌⨟◌}
use Rattle.tac_lower.specs.Instrs.{fresh, constant, null, prefixed, computed, address, field, decay, index, get, load, same, new, call, test, test_past, skip, zero_again}

-- What an expression is: a variable or a field of one, which have no code; or a piece that leaves a temporary with the value, or
-- with the pointer to the place.
pub data Yield : Type 0 where
  direct : Place → Yield
  left : Part ℕ → Yield

pub record Lowered : Type 0 where
  pub typing : ExprType
  -- by its line
  pub yield : ℕ → Yield

-- what follows a direct place, and what follows a pointer or value
abbrev pub onward : {B : Type 0} → (Place → Part B) → (ℕ → Part B) → Yield → Part B
onward d l (direct p) = d p
onward d l (left p) = p ▷ l

-- (where a temporary is wanted there is no direct place)
abbrev pub temp : Yield → Part ℕ
temp (direct p) = given 0
temp (left p) = p

abbrev pub value : ℕ → Lowered → Part ℕ
value line e = temp (e.yield line)

-- Places.
abbrev pub deeper : Place → ℕ → Place
deeper (Place.Global v path) k = Place.Global v (path ++ k ∷ [])
deeper (Place.Local v path) k = Place.Local v (path ++ k ∷ [])

abbrev pub part_of : ℕ → ObjectType → ℕ → Yield → Yield
part_of line struct k (direct p) = direct (deeper p k)
part_of line struct k (left p) = left (p ▷ λ a. field line struct k a)

abbrev pub read : ℕ → Yield → Part ℕ
read line = onward (get line) (load line)

abbrev pub pointer_to : ℕ → Yield → Part ℕ
pointer_to line = onward (address line) given

abbrev pub first_item : ℕ → ObjectType → Yield → Part ℕ
first_item line array y = pointer_to line y ▷ λ a. decay line array a

-- Truth values: an int is one, a pointer is compared with null.
abbrev pub against_null : ℕ → Bool → ℕ → Part ℕ
against_null line ne a = null line ▷ λ n. same line ne a n

abbrev pub truth_as : ℕ → Truth → ℕ → Part ℕ
truth_as line Truth.not_zero a = given a
truth_as line Truth.not_null a = against_null line true a

abbrev pub truth_by : ℕ → ExprType → ℕ → Part ℕ
truth_by line t a = truth_as line (truth_of t) a

abbrev pub truth : ℕ → Lowered → Part ℕ
truth line e = value line e ▷ λ a. truth_by line e.typing a

abbrev pub negation : ℕ → Truth → ℕ → Part ℕ
negation line Truth.not_zero a = prefixed line UnOp.Not a
negation line Truth.not_null a = against_null line false a

abbrev pub prefix : ℕ → PrefixOp → ExprType → ℕ → Part ℕ
prefix line PrefixOp.Minus t a = prefixed line UnOp.Neg a
prefix line PrefixOp.Complement t a = prefixed line UnOp.Com a
prefix line PrefixOp.Not t a = negation line (truth_of t) a

-- Operators. (`&&` and `||` have a form of their own.)
abbrev pub operator : BinaryOp → BinOp
operator BinaryOp.Or = BinOp.Or
operator BinaryOp.And = BinOp.And
operator BinaryOp.BitOr = BinOp.Or
operator BinaryOp.BitXor = BinOp.Xor
operator BinaryOp.BitAnd = BinOp.And
operator BinaryOp.Equal = BinOp.Eq
operator BinaryOp.NotEqual = BinOp.Ne
operator BinaryOp.Less = BinOp.Lt
operator BinaryOp.Greater = BinOp.Gt
operator BinaryOp.LessEqual = BinOp.Le
operator BinaryOp.GreaterEqual = BinOp.Ge
operator BinaryOp.ShiftLeft = BinOp.Shl
operator BinaryOp.ShiftRight = BinOp.Shr
operator BinaryOp.Add = BinOp.Add
operator BinaryOp.Sub = BinOp.Sub
operator BinaryOp.Mul = BinOp.Mul
operator BinaryOp.Div = BinOp.Quo
operator BinaryOp.Rem = BinOp.Rem

-- a pointer is moved back by the negated number
abbrev pub carried : ℕ → Operation → ℕ → ℕ → Part ℕ
carried line (Operation.words op) a b = computed line (operator op) a b
carried line (Operation.move_up words) a b = index line words a b
carried line (Operation.move_right_up words) a b = index line words b a
carried line (Operation.move_down words) a b = prefixed line UnOp.Neg b ▷ λ n. index line words a n
carried line Operation.same_pointers a b = same line false a b
carried line Operation.other_pointers a b = same line true a b

-- Two tests and one result: the second operand is skipped where the first decides.
abbrev pub settled : ℕ → ℕ → Part ℕ
settled line y = test line y 2 ⨟ constant line (pos 1) ▷ λ t. skip line 1 ⨟ zero_again line t

abbrev pub both : ℕ → Part ℕ → Part ℕ → Part ℕ
both line a b = a ▷ λ x. test line x (b.points + 3) ⨟ b ▷ settled line

abbrev pub either : ℕ → Part ℕ → Part ℕ → Part ℕ
either line a b = a ▷ λ x. test_past line x (b.points + 1) ⨟ b ▷ settled line

abbrev pub binary_by : Skips → List ℕ → BinaryOp → Lowered → Lowered → ℕ → Part ℕ
binary_by Skips.where_false sizes op l r line = both line (truth line l) (truth line r)
binary_by Skips.where_true sizes op l r line = either line (truth line l) (truth line r)
binary_by Skips.never sizes op l r line = value line l ▷ λ a. value line r ▷ λ b. carried line (elaboration.operation sizes op l.typing r.typing) a b

abbrev pub binary : List ℕ → BinaryOp → Lowered → Lowered → ℕ → Part ℕ
binary sizes op l r line = binary_by (skips op) sizes op l r line

-- `malloc`: a block for one item, or for as many as the count.
abbrev pub allocation : ℕ → ℕ → ObjectType → Option Lowered → Part ℕ
allocation line site item None = constant line (pos 1) ▷ λ a. new line site item a
allocation line site item (Some count) = value line count ▷ λ a. new line site item a

-- One level of an expression, by its line.
abbrev pub form_step : List ℕ → Form-F (ℕ → Yield) Lowered → ℕ → Yield
form_step sizes (Form-F.Global v) line = direct (Place.Global v [])
form_step sizes (Form-F.Local v) line = direct (Place.Local v [])
form_step sizes (Form-F.Deref p) line = left (value line p)
form_step sizes (Form-F.Index p i) line =
    left (value line p ▷ λ a. value line i ▷ λ b. index line (words_of sizes (object_of p.typing)) a b)
form_step sizes (Form-F.Field whole k) line = part_of line (object_of whole.typing) k (whole.yield line)
form_step sizes (Form-F.Arrow p k) line = left (value line p ▷ λ a. field line (object_of p.typing) k a)
form_step sizes (Form-F.Number k) line = left (constant line k)
form_step sizes Form-F.Null line = left (null line)
form_step sizes (Form-F.Read place) line = left (read line (place.yield line))
form_step sizes (Form-F.Decay place) line = left (first_item line (object_of place.typing) (place.yield line))
form_step sizes (Form-F.Address place) line = left (pointer_to line (place.yield line))
form_step sizes (Form-F.Prefix op e) line = left (value line e ▷ λ a. prefix line op e.typing a)
form_step sizes (Form-F.Binary l op r) line = left (binary sizes op l r line)
form_step sizes (Form-F.Call f args) line = left (chained [] (gathered [] (map (value line) args)) (λ temps. call line f temps))
form_step sizes Form-F.GetInt line = left (fresh line (λ t. Instr.In t))
form_step sizes Form-F.Left line = left (fresh line (λ t. Instr.Left t))
form_step sizes (Form-F.New site item count) line = left (allocation line site item count)

-- an expression, by the words of each struct
unfoldable pub expr : List ℕ → Expr → Lowered
expr sizes = fold-Expr (ℕ → Yield) Lowered (form_step sizes) (λ e. record { typing = e.typing; yield = e.form })

-- the values of some expressions
abbrev pub values_of : ℕ → List ℕ → List Expr → List (Part ℕ)
values_of line sizes es = map (value line) (map (expr sizes) es)
