-- The tree that a source has.
use Rattle.std.specs.Prelude.{◌≡◌, ℕ, List}
use Rattle.c_lex.specs.IsLexed.{Lexed, LexesTo}
use Rattle.c_ast.specs.Ast.{Ast}
use Rattle.parse_law.specs.Nesting.{Anywhere}
use Rattle.c_parse.specs.Symbol.{symbols_of}
use Rattle.c_parse.specs.Programs.{ProgramAt}

-- The bytes have tokens, and from these the tree is derived, however deep it is nested.
pub record IsTreeOf (bytes : List ℕ) (a : Ast) : Type 0 where
  pub lexed : Lexed
  pub lexes : LexesTo bytes lexed
  pub derived : ProgramAt Anywhere (symbols_of lexed.tokens) a.items
  pub names : a.names ≡ lexed.names
  pub last : a.last ≡ lexed.last
