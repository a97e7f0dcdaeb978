-- The marks of operators (C99 6.5).
use Rattle.c_lex.specs.declared.token.Mark.{Mark}
use Rattle.c_ast.specs.declared.expr.UnaryOp.{UnaryOp}
use Rattle.c_ast.specs.declared.expr.BinaryOp.{BinaryOp}
use Rattle.c_ast.specs.declared.stmt.AssignOp.{AssignOp}

abbrev pub unary_sign : UnaryOp → Mark
unary_sign UnaryOp.Minus = Mark.Minus
unary_sign UnaryOp.Plus = Mark.Plus
unary_sign UnaryOp.Not = Mark.Not
unary_sign UnaryOp.Complement = Mark.Tilde
unary_sign UnaryOp.Deref = Mark.Star
unary_sign UnaryOp.Address = Mark.And

abbrev pub binary_sign : BinaryOp → Mark
binary_sign BinaryOp.Or = Mark.OrOr
binary_sign BinaryOp.And = Mark.AndAnd
binary_sign BinaryOp.BitOr = Mark.Or
binary_sign BinaryOp.BitXor = Mark.Xor
binary_sign BinaryOp.BitAnd = Mark.And
binary_sign BinaryOp.Equal = Mark.Equal
binary_sign BinaryOp.NotEqual = Mark.NotEqual
binary_sign BinaryOp.Less = Mark.Less
binary_sign BinaryOp.Greater = Mark.Greater
binary_sign BinaryOp.LessEqual = Mark.LessEqual
binary_sign BinaryOp.GreaterEqual = Mark.GreaterEqual
binary_sign BinaryOp.ShiftLeft = Mark.ShiftLeft
binary_sign BinaryOp.ShiftRight = Mark.ShiftRight
binary_sign BinaryOp.Add = Mark.Plus
binary_sign BinaryOp.Sub = Mark.Minus
binary_sign BinaryOp.Mul = Mark.Star
binary_sign BinaryOp.Div = Mark.Slash
binary_sign BinaryOp.Rem = Mark.Percent

abbrev pub assign_sign : AssignOp → Mark
assign_sign AssignOp.Plain = Mark.Assign
assign_sign AssignOp.Add = Mark.PlusAssign
assign_sign AssignOp.Sub = Mark.MinusAssign
assign_sign AssignOp.Mul = Mark.StarAssign
assign_sign AssignOp.Div = Mark.SlashAssign
assign_sign AssignOp.Rem = Mark.PercentAssign
assign_sign AssignOp.BitAnd = Mark.AndAssign
assign_sign AssignOp.BitOr = Mark.OrAssign
assign_sign AssignOp.BitXor = Mark.XorAssign
assign_sign AssignOp.ShiftLeft = Mark.ShiftLeftAssign
assign_sign AssignOp.ShiftRight = Mark.ShiftRightAssign
