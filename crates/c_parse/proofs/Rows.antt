-- Some rows, computed.
use Rattle.std.proofs.Common.{ℕ, pos, [], ◌∷◌, Some}
use Rattle.dfi_base.specs.declared.numbers.Line.{Line}
use Rattle.c_lex.specs.declared.token.Word.{Word}
use Rattle.c_lex.specs.declared.token.Mark.{Mark}
use Rattle.c_ast.specs.declared.decl.Base.{Base}
use Rattle.c_ast.specs.declared.expr.BinaryOp.{BinaryOp}
use Rattle.c_ast.specs.declared.expr.Expr.{Expr}
use Rattle.c_ast.specs.declared.program.Item.{Item}
use Rattle.parse_law.specs.tools.Parsing as parsing
use Rattle.c_parse.specs.Nodes as tree
use Rattle.c_parse.specs.Symbol.{Symbols, word, mark, name, number}
use Rattle.c_parse.specs.tools.Tokens.{want}
use Rattle.c_parse.specs.tools.TypeParser as types
use Rattle.c_parse.specs.tools.ProgramParser as programs
use Rattle.c_parse.specs.tools.StmtParser as stmts
use Rattle.c_parse.specs.tools.ExprParser as exprs
use Rattle.c_parse.specs.Parsed.{IsProgram, IsUnexpected}
use Rattle.c_parse.proofs.ProgramLaws.{program_tells}

one : Line
one = record { 0 = 1 }

-- int main() {
open_main : Symbols
open_main = word Word.Int one ∷ name 0 one ∷ mark Mark.OpenParen one ∷ mark Mark.CloseParen one ∷ mark Mark.OpenBrace one ∷ []

open_main_ends : IsUnexpected open_main 5
unfolding open_main programs.program programs.item programs.global programs.global_from programs.global_end programs.signature programs.signature_end programs.body stmts.block stmts.block_body types.stars types.parameter_list parsing.repeat parsing.turns parsing.peek parsing.skip parsing.finish want
open_main_ends = (program_tells open_main).1

-- ;
alone : IsUnexpected (mark Mark.Semicolon one ∷ []) 0
unfolding programs.program programs.item parsing.repeat parsing.turns parsing.peek parsing.skip parsing.finish want
alone = (program_tells (mark Mark.Semicolon one ∷ [])).1

-- int x = 1 - 2 - 3;
value_of_x : Expr → Item
value_of_x a = Item.Decl (record { base = Base.Int one; items = record { declarator = record { line = one; stars = 0; name = record { line = one; name = 0 }; lengths = [] }; value = Some a } ∷ [] })

digit : ℕ → Expr
digit n = tree.Number one (pos n)

differences : Symbols
differences = word Word.Int one ∷ name 0 one ∷ mark Mark.Assign one ∷ number (pos 1) one ∷ mark Mark.Minus one ∷ number (pos 2) one ∷ mark Mark.Minus one ∷ number (pos 3) one ∷ mark Mark.Semicolon one ∷ []

from_the_left : IsProgram differences (value_of_x (tree.Binary one (tree.Binary one (digit 1) BinaryOp.Sub (digit 2)) BinaryOp.Sub (digit 3)) ∷ [])
unfolding differences value_of_x digit programs.program programs.item programs.global programs.global_from programs.global_end stmts.valued stmts.decl_rest stmts.expr_at exprs.expr exprs.level exprs.chain exprs.right exprs.subject exprs.operand exprs.operand_from exprs.postfix types.declared types.stars parsing.repeat parsing.turns parsing.peek parsing.skip parsing.finish want
from_the_left = (program_tells differences).0

-- int x = 1 & 2 == 3;
masked : Symbols
masked = word Word.Int one ∷ name 0 one ∷ mark Mark.Assign one ∷ number (pos 1) one ∷ mark Mark.And one ∷ number (pos 2) one ∷ mark Mark.Equal one ∷ number (pos 3) one ∷ mark Mark.Semicolon one ∷ []

equality_first : IsProgram masked (value_of_x (tree.Binary one (digit 1) BinaryOp.BitAnd (tree.Binary one (digit 2) BinaryOp.Equal (digit 3))) ∷ [])
unfolding masked value_of_x digit programs.program programs.item programs.global programs.global_from programs.global_end stmts.valued stmts.decl_rest stmts.expr_at exprs.expr exprs.level exprs.chain exprs.right exprs.subject exprs.operand exprs.operand_from exprs.postfix types.declared types.stars parsing.repeat parsing.turns parsing.peek parsing.skip parsing.finish want
equality_first = (program_tells masked).0

two : Line
two = record { 0 = 2 }

-- int x = (
-- 1);
grouped : Symbols
grouped = word Word.Int one ∷ name 0 one ∷ mark Mark.Assign one ∷ mark Mark.OpenParen one ∷ number (pos 1) two ∷ mark Mark.CloseParen two ∷ mark Mark.Semicolon two ∷ []

no_line_of_parenthesis : IsProgram grouped (value_of_x (tree.Number two (pos 1)) ∷ [])
unfolding grouped value_of_x digit programs.program programs.item programs.global programs.global_from programs.global_end stmts.valued stmts.decl_rest stmts.expr_at exprs.expr exprs.level exprs.chain exprs.right exprs.subject exprs.operand exprs.operand_from exprs.opened exprs.postfix types.declared types.stars parsing.repeat parsing.turns parsing.peek parsing.skip parsing.finish want
no_line_of_parenthesis = (program_tells grouped).0

-- int x = (
-- 1) - 2;
begun : Symbols
begun = word Word.Int one ∷ name 0 one ∷ mark Mark.Assign one ∷ mark Mark.OpenParen one ∷ number (pos 1) two ∷ mark Mark.CloseParen two ∷ mark Mark.Minus two ∷ number (pos 2) two ∷ mark Mark.Semicolon two ∷ []

begins_at_parenthesis : IsProgram begun (value_of_x (tree.Binary one (tree.Number two (pos 1)) BinaryOp.Sub (tree.Number two (pos 2))) ∷ [])
unfolding begun value_of_x programs.program programs.item programs.global programs.global_from programs.global_end stmts.valued stmts.decl_rest stmts.expr_at exprs.expr exprs.level exprs.chain exprs.right exprs.subject exprs.operand exprs.operand_from exprs.opened exprs.postfix types.declared types.stars parsing.repeat parsing.turns parsing.peek parsing.skip parsing.finish want
begins_at_parenthesis = (program_tells begun).0
