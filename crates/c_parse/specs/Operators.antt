-- Which operator a mark is (C99 6.5.3 to 6.5.16).
use Rattle.std.specs.Prelude.{List, [], ◌∷◌, Option, Some, None}
use Rattle.c_lex.specs.declared.token.Mark.{Mark}
use Rattle.c_ast.specs.declared.expr.UnaryOp.{UnaryOp}
use Rattle.c_ast.specs.declared.expr.BinaryOp.{BinaryOp}
use Rattle.c_ast.specs.declared.stmt.AssignOp.{AssignOp}
use Rattle.c_parse.specs.declared.operators.Tier.{Tier}

-- before an operand
abbrev pub unary_op : Mark → Option UnaryOp
unary_op Mark.Minus = Some UnaryOp.Minus
unary_op Mark.Plus = Some UnaryOp.Plus
unary_op Mark.Not = Some UnaryOp.Not
unary_op Mark.Tilde = Some UnaryOp.Complement
unary_op Mark.Star = Some UnaryOp.Deref
unary_op Mark.And = Some UnaryOp.Address
unary_op _ = None

-- between two operands, with its level
abbrev pub binary_op : Mark → Option (Tier × BinaryOp)
binary_op Mark.OrOr = Some (Tier.LogicalOr, BinaryOp.Or)
binary_op Mark.AndAnd = Some (Tier.LogicalAnd, BinaryOp.And)
binary_op Mark.Or = Some (Tier.BitwiseOr, BinaryOp.BitOr)
binary_op Mark.Xor = Some (Tier.BitwiseXor, BinaryOp.BitXor)
binary_op Mark.And = Some (Tier.BitwiseAnd, BinaryOp.BitAnd)
binary_op Mark.Equal = Some (Tier.Equality, BinaryOp.Equal)
binary_op Mark.NotEqual = Some (Tier.Equality, BinaryOp.NotEqual)
binary_op Mark.Less = Some (Tier.Relational, BinaryOp.Less)
binary_op Mark.Greater = Some (Tier.Relational, BinaryOp.Greater)
binary_op Mark.LessEqual = Some (Tier.Relational, BinaryOp.LessEqual)
binary_op Mark.GreaterEqual = Some (Tier.Relational, BinaryOp.GreaterEqual)
binary_op Mark.ShiftLeft = Some (Tier.Shift, BinaryOp.ShiftLeft)
binary_op Mark.ShiftRight = Some (Tier.Shift, BinaryOp.ShiftRight)
binary_op Mark.Plus = Some (Tier.Additive, BinaryOp.Add)
binary_op Mark.Minus = Some (Tier.Additive, BinaryOp.Sub)
binary_op Mark.Star = Some (Tier.Multiplicative, BinaryOp.Mul)
binary_op Mark.Slash = Some (Tier.Multiplicative, BinaryOp.Div)
binary_op Mark.Percent = Some (Tier.Multiplicative, BinaryOp.Rem)
binary_op _ = None

-- the levels, lowest first
abbrev pub tiers : List Tier
tiers = Tier.LogicalOr ∷ Tier.LogicalAnd ∷ Tier.BitwiseOr ∷ Tier.BitwiseXor ∷ Tier.BitwiseAnd
    ∷ Tier.Equality ∷ Tier.Relational ∷ Tier.Shift ∷ Tier.Additive ∷ Tier.Multiplicative ∷ []

abbrev pub assign_op : Mark → Option AssignOp
assign_op Mark.Assign = Some AssignOp.Plain
assign_op Mark.PlusAssign = Some AssignOp.Add
assign_op Mark.MinusAssign = Some AssignOp.Sub
assign_op Mark.StarAssign = Some AssignOp.Mul
assign_op Mark.SlashAssign = Some AssignOp.Div
assign_op Mark.PercentAssign = Some AssignOp.Rem
assign_op Mark.AndAssign = Some AssignOp.BitAnd
assign_op Mark.OrAssign = Some AssignOp.BitOr
assign_op Mark.XorAssign = Some AssignOp.BitXor
assign_op Mark.ShiftLeftAssign = Some AssignOp.ShiftLeft
assign_op Mark.ShiftRightAssign = Some AssignOp.ShiftRight
assign_op _ = None
