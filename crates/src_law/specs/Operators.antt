-- Operators on values (C99 6.5.3.3, 6.5.5 to 6.5.14): two numbers are computed, a pointer is moved or compared.
use Rattle.std.specs.Prelude.{refl, ℕ, pos, Bool, true, false, List, Option, Some, None}
use Rattle.c_ast.specs.declared.expr.BinaryOp.{BinaryOp}
use Rattle.c_ast.specs.declared.stmt.AssignOp.{AssignOp}
use Rattle.c_typed.specs.Types.{words_of}
use Rattle.c_typed.specs.declared.types.ObjectType.{ObjectType}
use Rattle.c_typed.specs.declared.types.ExprType.{ExprType}
use Rattle.c_typed.specs.declared.expr.PrefixOp.{PrefixOp}
use Rattle.dfi_base.specs.Words.{word_neg, word_not, word_com, word_add, word_sub, word_mul, word_and, word_or, word_xor, word_shl, word_shr, word_lt, word_gt, word_le, word_ge, word_eq, word_ne, word_quo, word_rem}
use Rattle.obj_mem.specs.declared.value.Value.{Value}
use Rattle.obj_mem.specs.declared.event.Event.{Event}
use Rattle.obj_mem.specs.Values.{truth_of, on_word, on_words, moved}
use Rattle.src_law.specs.Acts.{Kind, a_value, a_truth, Act, ◌▷◌}

-- what has no meaning makes an event that is never valid
abbrev pub wrong : {k : Kind} → Act k
wrong = Act.stops Event.Bad refl

abbrev pub needed : Option Value → Act a_value
needed None = wrong
needed (Some v) = Act.gives v

-- A truth value: of a number by itself, of a pointer by comparing it with null.

abbrev pub number_of : Bool → Value
number_of true = Value.Int (pos 1)
number_of false = Value.Int (pos 0)

abbrev pub against_null : Bool → Value → Act a_value
against_null ne v = Act.does (Event.Same v Value.Null ne) refl

abbrev pub as_number : ExprType → Value → Act a_value
as_number ExprType.Int v = Act.gives v
as_number t v = against_null true v

abbrev pub tested : Option Bool → Act a_truth
tested None = wrong
tested (Some b) = Act.gives b

abbrev pub is_true : ExprType → Value → Act a_truth
is_true t v = as_number t v ▷ λ k. tested (truth_of k)

-- Operators of one operand.

abbrev pub negated : ExprType → Value → Act a_value
negated ExprType.Int v = needed (on_word word_not v)
negated t v = against_null false v

abbrev pub prefixed : PrefixOp → ExprType → Value → Act a_value
prefixed PrefixOp.Minus t v = needed (on_word word_neg v)
prefixed PrefixOp.Complement t v = needed (on_word word_com v)
prefixed PrefixOp.Not t v = negated t v

-- Operators of two numbers.

abbrev pub computed : (ℕ → ℕ → ℕ) → Value → Value → Act a_value
computed op v w = needed (on_words op v w)

-- a division by 0 makes an event, and nothing follows
abbrev pub divided_by : Option Bool → (ℕ → ℕ → ℕ) → Value → Value → Act a_value
divided_by (Some false) op v w = Act.stops Event.Zero refl
divided_by _ op v w = computed op v w

abbrev pub divided : (ℕ → ℕ → ℕ) → Value → Value → Act a_value
divided op v w = divided_by (truth_of w) op v w

-- Pointers: moved by items of the type that they point to, and compared.

abbrev pub moved_by : List ℕ → ObjectType → Value → Value → Act a_value
moved_by sizes t p i = needed (moved (words_of sizes t) i p)

abbrev pub added : List ℕ → ExprType → ExprType → Value → Value → Act a_value
added sizes (ExprType.Pointer t) u v w = moved_by sizes t v w
added sizes s (ExprType.Pointer u) v w = moved_by sizes u w v
added sizes s u v w = computed word_add v w

abbrev pub subtracted : List ℕ → ExprType → Value → Value → Act a_value
subtracted sizes (ExprType.Pointer t) v w = needed (on_word word_neg w) ▷ λ i. moved_by sizes t v i
subtracted sizes s v w = computed word_sub v w

abbrev pub equated : Bool → (ℕ → ℕ → ℕ) → ExprType → Value → Value → Act a_value
equated ne op ExprType.Int v w = computed op v w
equated ne op s v w = Act.does (Event.Same v w ne) refl

abbrev pub divides : BinaryOp → Bool
divides BinaryOp.Div = true
divides BinaryOp.Rem = true
divides op = false

-- what an operator makes of two words
abbrev pub word_op : BinaryOp → ℕ → ℕ → ℕ
word_op BinaryOp.Or = word_or
word_op BinaryOp.And = word_and
word_op BinaryOp.BitOr = word_or
word_op BinaryOp.BitXor = word_xor
word_op BinaryOp.BitAnd = word_and
word_op BinaryOp.Equal = word_eq
word_op BinaryOp.NotEqual = word_ne
word_op BinaryOp.Less = word_lt
word_op BinaryOp.Greater = word_gt
word_op BinaryOp.LessEqual = word_le
word_op BinaryOp.GreaterEqual = word_ge
word_op BinaryOp.ShiftLeft = word_shl
word_op BinaryOp.ShiftRight = word_shr
word_op BinaryOp.Add = word_add
word_op BinaryOp.Sub = word_sub
word_op BinaryOp.Mul = word_mul
word_op BinaryOp.Div = word_quo
word_op BinaryOp.Rem = word_rem

-- by the types of both operands (`&&` and `||` have clauses of their own)
abbrev pub operated : List ℕ → BinaryOp → ExprType → ExprType → Value → Value → Act a_value
operated sizes BinaryOp.Equal s u = equated false word_eq s
operated sizes BinaryOp.NotEqual s u = equated true word_ne s
operated sizes BinaryOp.Add s u = added sizes s u
operated sizes BinaryOp.Sub s u = subtracted sizes s
operated sizes BinaryOp.Div s u = divided word_quo
operated sizes BinaryOp.Rem s u = divided word_rem
operated sizes op s u = computed (word_op op)

-- the operator of an assignment
abbrev pub operator_of : AssignOp → Option BinaryOp
operator_of AssignOp.Plain = None
operator_of AssignOp.Add = Some BinaryOp.Add
operator_of AssignOp.Sub = Some BinaryOp.Sub
operator_of AssignOp.Mul = Some BinaryOp.Mul
operator_of AssignOp.Div = Some BinaryOp.Div
operator_of AssignOp.Rem = Some BinaryOp.Rem
operator_of AssignOp.BitAnd = Some BinaryOp.BitAnd
operator_of AssignOp.BitOr = Some BinaryOp.BitOr
operator_of AssignOp.BitXor = Some BinaryOp.BitXor
operator_of AssignOp.ShiftLeft = Some BinaryOp.ShiftLeft
operator_of AssignOp.ShiftRight = Some BinaryOp.ShiftRight

-- what is assigned, by the type of the place
abbrev pub updated_by : List ℕ → Option BinaryOp → ExprType → Value → Value → Act a_value
updated_by sizes None t old v = Act.gives v
updated_by sizes (Some op) t old v = operated sizes op t ExprType.Int old v

abbrev pub updated : List ℕ → AssignOp → ExprType → Value → Value → Act a_value
updated sizes op t old v = updated_by sizes (operator_of op) t old v
