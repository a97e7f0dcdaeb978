-- What the next token can begin, for the forms that ask.
use Rattle.std.specs.Prelude.{Bool, true, false, Option, Some, None}
use Rattle.c_lex.specs.declared.token.Word.{Word}
use Rattle.c_lex.specs.declared.token.Mark.{Mark}
use Rattle.c_lex.specs.declared.token.Kind.{Kind}
use Rattle.c_ast.specs.declared.stmt.AssignOp.{AssignOp}
use Rattle.c_parse.specs.Operators.{assign_op}
use Rattle.c_parse.specs.declared.sorts.SubjectEnd.{SubjectEnd}
use Rattle.c_parse.specs.declared.sorts.ItemStart.{ItemStart}
use Rattle.c_parse.specs.declared.sorts.StmtStart.{StmtStart}
use Rattle.c_parse.specs.declared.sorts.BaseWord.{BaseWord}
use Rattle.c_parse.specs.declared.sorts.ListStart.{ListStart}
use Rattle.c_parse.specs.declared.sorts.OperandStart.{OperandStart}
use Rattle.c_parse.specs.declared.sorts.SuffixStart.{SuffixStart}

abbrev pub base_word : Option Kind → BaseWord
base_word (Some (Kind.Word Word.Int)) = BaseWord.Int
base_word (Some (Kind.Word Word.Struct)) = BaseWord.Struct
base_word _ = BaseWord.Other

abbrev pub list_start : Option Kind → ListStart
list_start None = ListStart.Empty
list_start (Some (Kind.Mark Mark.CloseParen)) = ListStart.Empty
list_start (Some (Kind.Word Word.Void)) = ListStart.Void
list_start _ = ListStart.List

abbrev pub operand_start : Option Kind → OperandStart
operand_start (Some (Kind.Mark Mark.Minus)) = OperandStart.Prefix
operand_start (Some (Kind.Mark Mark.Plus)) = OperandStart.Prefix
operand_start (Some (Kind.Mark Mark.Not)) = OperandStart.Prefix
operand_start (Some (Kind.Mark Mark.Tilde)) = OperandStart.Prefix
operand_start (Some (Kind.Mark Mark.Star)) = OperandStart.Prefix
operand_start (Some (Kind.Mark Mark.And)) = OperandStart.Prefix
operand_start (Some (Kind.Mark Mark.OpenParen)) = OperandStart.Paren
operand_start (Some (Kind.Num n)) = OperandStart.Number
operand_start (Some (Kind.Id n)) = OperandStart.Name
operand_start (Some (Kind.Word Word.Null)) = OperandStart.Null
operand_start (Some (Kind.Word Word.Sizeof)) = OperandStart.Sizeof
operand_start _ = OperandStart.Other

abbrev pub suffix_start : Option Kind → SuffixStart
suffix_start (Some (Kind.Mark Mark.OpenBracket)) = SuffixStart.Index
suffix_start (Some (Kind.Mark Mark.Dot)) = SuffixStart.Field
suffix_start (Some (Kind.Mark Mark.Arrow)) = SuffixStart.Arrow
suffix_start _ = SuffixStart.Other

-- a type comes next
abbrev pub is_base_by : BaseWord → Bool
is_base_by BaseWord.Other = false
is_base_by _ = true

abbrev pub is_base : Option Kind → Bool
is_base k = is_base_by (base_word k)

-- an operand comes next
abbrev pub is_operand_by : OperandStart → Bool
is_operand_by OperandStart.Other = false
is_operand_by _ = true

abbrev pub is_operand : Option Kind → Bool
is_operand k = is_operand_by (operand_start k)

abbrev pub is_suffix_by : SuffixStart → Bool
is_suffix_by SuffixStart.Other = false
is_suffix_by _ = true

abbrev pub is_suffix : Option Kind → Bool
is_suffix k = is_suffix_by (suffix_start k)

abbrev pub assign_end : Option AssignOp → SubjectEnd
assign_end None = SubjectEnd.Other
assign_end (Some op) = SubjectEnd.Assign

abbrev pub subject_end : Option Kind → SubjectEnd
subject_end (Some (Kind.Mark Mark.PlusPlus)) = SubjectEnd.Increment
subject_end (Some (Kind.Mark Mark.MinusMinus)) = SubjectEnd.Decrement
subject_end (Some (Kind.Mark m)) = assign_end (assign_op m)
subject_end _ = SubjectEnd.Other

abbrev pub word_start : Word → StmtStart
word_start Word.Return = StmtStart.Return
word_start Word.Break = StmtStart.Break
word_start Word.Continue = StmtStart.Continue
word_start Word.If = StmtStart.If
word_start Word.While = StmtStart.While
word_start Word.For = StmtStart.For
word_start Word.Par = StmtStart.Par
word_start Word.Null = StmtStart.Simple
word_start Word.Sizeof = StmtStart.Simple
word_start _ = StmtStart.Other

abbrev pub mark_start : Mark → StmtStart
mark_start Mark.OpenBrace = StmtStart.Block
mark_start Mark.Semicolon = StmtStart.Empty
mark_start Mark.PlusPlus = StmtStart.Simple
mark_start Mark.MinusMinus = StmtStart.Simple
mark_start Mark.OpenParen = StmtStart.Simple
mark_start Mark.Minus = StmtStart.Simple
mark_start Mark.Plus = StmtStart.Simple
mark_start Mark.Not = StmtStart.Simple
mark_start Mark.Tilde = StmtStart.Simple
mark_start Mark.Star = StmtStart.Simple
mark_start Mark.And = StmtStart.Simple
mark_start _ = StmtStart.Other

abbrev pub stmt_start : Option Kind → StmtStart
stmt_start (Some (Kind.Word w)) = word_start w
stmt_start (Some (Kind.Mark m)) = mark_start m
stmt_start (Some (Kind.Id n)) = StmtStart.Simple
stmt_start (Some (Kind.Num n)) = StmtStart.Simple
stmt_start None = StmtStart.Other

abbrev pub is_stmt_by : StmtStart → Bool
is_stmt_by StmtStart.Other = false
is_stmt_by _ = true

-- a statement comes next
abbrev pub is_stmt : Option Kind → Bool
is_stmt k = is_stmt_by (stmt_start k)

abbrev pub item_start : Option Kind → ItemStart
item_start (Some (Kind.Word Word.Int)) = ItemStart.Int
item_start (Some (Kind.Word Word.Struct)) = ItemStart.Struct
item_start (Some (Kind.Word Word.Void)) = ItemStart.Void
item_start _ = ItemStart.Other
