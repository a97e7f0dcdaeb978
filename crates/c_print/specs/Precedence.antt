-- How tightly the parts of an expression hold together (C99 6.5), as a number: 0 for a whole expression, the highest for what needs
-- no parentheses anywhere.
use Rattle.std.specs.Prelude.{ℕ}
use Rattle.c_ast.specs.declared.expr.BinaryOp.{BinaryOp}

abbrev pub precedence : BinaryOp → ℕ
precedence BinaryOp.Or = 0
precedence BinaryOp.And = 1
precedence BinaryOp.BitOr = 2
precedence BinaryOp.BitXor = 3
precedence BinaryOp.BitAnd = 4
precedence BinaryOp.Equal = 5
precedence BinaryOp.NotEqual = 5
precedence BinaryOp.Less = 6
precedence BinaryOp.Greater = 6
precedence BinaryOp.LessEqual = 6
precedence BinaryOp.GreaterEqual = 6
precedence BinaryOp.ShiftLeft = 7
precedence BinaryOp.ShiftRight = 7
precedence BinaryOp.Add = 8
precedence BinaryOp.Sub = 8
precedence BinaryOp.Mul = 9
precedence BinaryOp.Div = 9
precedence BinaryOp.Rem = 9

-- an operand with an operator or a cast before it
abbrev pub prefixed : ℕ
prefixed = 10

-- what an index, a field or `++` may stand behind
abbrev pub postfix : ℕ
postfix = 11
