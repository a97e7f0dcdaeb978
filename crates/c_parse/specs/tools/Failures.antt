-- What a failure of the code says of the tokens.
use Rattle.std.specs.Prelude.{ℕ, ◌-◌, List, length, Result, Ok, Err}
use Rattle.dfi_base.specs.declared.numbers.Line.{Line}
use Rattle.c_lex.specs.IsLexed.{Lexed}
use Rattle.c_ast.specs.declared.program.Item.{Item}
use Rattle.c_parse.specs.declared.cursor.Failure.{Failure}
use Rattle.c_parse.specs.declared.fault.ParseFault.{ParseFault}
use Rattle.c_parse.specs.Symbol.{symbols_of}
use Rattle.c_parse.specs.Parsed.{IsProgram, IsUnexpected, IsDeep, line_at}

-- the place of the token from which on so many are left
abbrev pub place : Lexed → ℕ → ℕ
place l left = length l.tokens - left

abbrev pub line_from : Lexed → ℕ → Line
line_from l left = line_at (symbols_of l.tokens) l.last (place l left)

abbrev pub FailsAt : Lexed → Failure → Type 0
FailsAt l Failure.Memory = Unit {0}
FailsAt l (Failure.Unexpected left) = IsUnexpected (symbols_of l.tokens) (place l left)
FailsAt l (Failure.Deep left) = IsDeep (symbols_of l.tokens) (place l left)

abbrev pub Tells : Lexed → Result (List Item) Failure → Type 0
Tells l (Ok items) = IsProgram (symbols_of l.tokens) items
Tells l (Err failure) = FailsAt l failure

abbrev pub fault_of : Lexed → Failure → ParseFault
fault_of l Failure.Memory = ParseFault.Memory
fault_of l (Failure.Unexpected left) = ParseFault.Unexpected (place l left) (line_from l left)
fault_of l (Failure.Deep left) = ParseFault.Deep (line_from l left)
