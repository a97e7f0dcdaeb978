-- What the tokens of a source are: a program, or at fault at some token.
use Rattle.std.specs.Prelude.{◌≡◌, ℕ, zero, suc, List, [], ◌∷◌, Result, Ok, Err}
use Rattle.dfi_base.specs.declared.numbers.Line.{Line}
use Rattle.c_lex.specs.IsLexed.{Lexed}
use Rattle.c_ast.specs.declared.program.Item.{Item}
use Rattle.c_ast.specs.Ast.{Ast}
use Rattle.parse_law.specs.FirstFault as first
use Rattle.c_parse.specs.declared.fault.ParseFault.{ParseFault}
use Rattle.c_parse.specs.Symbol.{Symbols, symbols_of}
use Rattle.c_parse.specs.Programs.{ProgramAt}
use Rattle.dfi_base.specs.Limits.{nesting_limit}

-- the tokens of these items and no others, none of them nested deeper than the limit
abbrev pub IsProgram : Symbols → List Item → Type 0
IsProgram ts items = first.IsParsed ProgramAt nesting_limit ts items

-- No program goes on with the token at this place, which is the number of tokens where they end too soon. Some program goes on up to it, and
-- no token before it is nested deeper than the limit.
abbrev pub IsUnexpected : Symbols → ℕ → Type 0
IsUnexpected ts place = first.IsUnexpected ProgramAt nesting_limit ts place

-- The token at this place is the first that is nested deeper than the limit, in every program that goes on with it, and some program does.
abbrev pub IsDeep : Symbols → ℕ → Type 0
IsDeep ts place = first.IsDeep ProgramAt nesting_limit ts place

-- the line of the token at this place, and the last line where they have ended
abbrev pub line_at : Symbols → Line → ℕ → Line
line_at [] last k = last
line_at (t ∷ ts) last zero = t.line
line_at (t ∷ ts) last (suc k) = line_at ts last k

abbrev pub IsFault : Lexed → ParseFault → Type 0
IsFault l (ParseFault.Unexpected k line) = IsUnexpected (symbols_of l.tokens) k × (line ≡ line_at (symbols_of l.tokens) l.last k)
IsFault l (ParseFault.Deep line) = (k : ℕ) × IsDeep (symbols_of l.tokens) k × (line ≡ line_at (symbols_of l.tokens) l.last k)
IsFault l ParseFault.Memory = Unit {0}

-- What is said of a source is true of it. Want of memory alone is free.
abbrev pub Says : Lexed → Result Ast ParseFault → Type 0
Says l (Ok a) = IsProgram (symbols_of l.tokens) a.items × (a.names ≡ l.names) × (a.last ≡ l.last)
Says l (Err fault) = IsFault l fault
