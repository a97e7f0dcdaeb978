-- What the bytes of a source are: tokens, a syntax tree, a typed program.
use Rattle.std.specs.Prelude.{◌≡◌, ℕ, List, [], Ok}
use Rattle.c_lex.specs.IsLexed.{Lexed, LexesTo}
use Rattle.c_ast.specs.Ast.{Ast}
use Rattle.c_parse.specs.Parsed.{Says}
use Rattle.c_typed.specs.Typed.{Typed}
use Rattle.c_typed.specs.Programs.{faults_of, typed_of}

-- the bytes have these tokens, and the tokens this tree
pub record IsParsed (bytes : List ℕ) (a : Ast) : Type 0 where
  pub lexed : Lexed
  pub tokens : LexesTo bytes lexed
  pub tree : Says lexed (Ok a)

-- the tree breaks no rule, and is this typed program
pub record IsTyped (bytes : List ℕ) (t : Typed) : Type 0 where
  pub tree : Ast
  pub parsed : IsParsed bytes tree
  pub keeps : faults_of tree ≡ []
  pub typed : t ≡ typed_of tree
