-- What an expression does by the types of its parts (C99 6.5): the lowering maps it to instructions, the meaning to values.
use Rattle.std.specs.Prelude.{ℕ, suc, List, [], take}
use Rattle.c_ast.specs.declared.expr.BinaryOp.{BinaryOp}
use Rattle.c_ast.specs.declared.stmt.AssignOp.{AssignOp}
use Rattle.c_typed.specs.declared.types.BaseType.{BaseType}
use Rattle.c_typed.specs.declared.types.ObjectType.{ObjectType}
use Rattle.c_typed.specs.declared.types.ExprType.{ExprType}
use Rattle.c_typed.specs.declared.program.Struct.{Struct}
use Rattle.c_typed.specs.Types.{words_of}
use Rattle.c_typed.specs.IsWell.{words_in}

-- Which object stands at a place, or behind a pointer.
abbrev pub int_object : ObjectType
int_object = record { base = BaseType.Int; stars = 0; lengths = [] }

abbrev pub object_of : ExprType → ObjectType
object_of (ExprType.Place t) = t
object_of (ExprType.Pointer t) = t
object_of _ = int_object

-- the value at a scalar place: a pointer, else an int
abbrev pub scalar_by : BaseType → ℕ → List ℕ → ExprType
scalar_by base (suc n) [] = ExprType.Pointer (record { base = base; stars = n; lengths = [] })
scalar_by base _ _ = ExprType.Int

abbrev pub scalar_of : ObjectType → ExprType
scalar_of t = scalar_by t.base t.stars t.lengths

-- What makes a value true: an int that is not 0, or a pointer that is not null.
pub data Truth : Type 0 where
  not_zero : Truth
  not_null : Truth

abbrev pub truth_of : ExprType → Truth
truth_of ExprType.Int = not_zero
truth_of _ = not_null

-- What an operator between two values does.
pub data Operation : Type 0 where
  -- two words, as the operator does with ints
  words : BinaryOp → Operation
  -- the left pointer up, the right one up, or the left one down, by so many items of these words
  move_up : ℕ → Operation
  move_right_up : ℕ → Operation
  move_down : ℕ → Operation
  -- two pointers are the same, or differ
  same_pointers : Operation
  other_pointers : Operation

abbrev pub sum : List ℕ → ExprType → ExprType → Operation
sum sizes (ExprType.Pointer t) u = move_up (words_of sizes t)
sum sizes s (ExprType.Pointer u) = move_right_up (words_of sizes u)
sum sizes s u = words BinaryOp.Add

abbrev pub difference : List ℕ → ExprType → Operation
difference sizes (ExprType.Pointer t) = move_down (words_of sizes t)
difference sizes s = words BinaryOp.Sub

abbrev pub equality : BinaryOp → Operation → ExprType → Operation
equality op pointers ExprType.Int = words op
equality op pointers _ = pointers

-- (`&&` and `||` skip their second operand where the first decides: they are no operation of two values)
abbrev pub operation : List ℕ → BinaryOp → ExprType → ExprType → Operation
operation sizes BinaryOp.Add s u = sum sizes s u
operation sizes BinaryOp.Sub s u = difference sizes s
operation sizes BinaryOp.Equal s u = equality BinaryOp.Equal same_pointers s
operation sizes BinaryOp.NotEqual s u = equality BinaryOp.NotEqual other_pointers s
operation sizes op s u = words op

-- Whether the second operand is always evaluated.
pub data Skips : Type 0 where
  where_false : Skips
  where_true : Skips
  never : Skips

abbrev pub skips : BinaryOp → Skips
skips BinaryOp.And = where_false
skips BinaryOp.Or = where_true
skips _ = never

-- What an assignment with an operator does with the old value and the operand (a plain one has no operator).
abbrev pub compound_operator : AssignOp → BinaryOp
compound_operator AssignOp.Plain = BinaryOp.Add
compound_operator AssignOp.Add = BinaryOp.Add
compound_operator AssignOp.Sub = BinaryOp.Sub
compound_operator AssignOp.Mul = BinaryOp.Mul
compound_operator AssignOp.Div = BinaryOp.Div
compound_operator AssignOp.Rem = BinaryOp.Rem
compound_operator AssignOp.BitAnd = BinaryOp.BitAnd
compound_operator AssignOp.BitOr = BinaryOp.BitOr
compound_operator AssignOp.BitXor = BinaryOp.BitXor
compound_operator AssignOp.ShiftLeft = BinaryOp.ShiftLeft
compound_operator AssignOp.ShiftRight = BinaryOp.ShiftRight

abbrev pub update : List ℕ → AssignOp → ExprType → Operation
update sizes op t = operation sizes (compound_operator op) t ExprType.Int

-- The words before a field of a struct.
abbrev pub field_offset : List ℕ → Struct → ℕ → ℕ
field_offset sizes d k = words_in sizes (take k d.fields)
