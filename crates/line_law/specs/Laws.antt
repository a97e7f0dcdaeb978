-- The lines of broken rules of types.
use Rattle.std.specs.Prelude.{◌≡◌}
use Rattle.std.specs.List.{Contains}
use Rattle.c_ast.specs.Ast.{Ast}
use Rattle.parse_law.specs.Nesting.{Anywhere}
use Rattle.c_parse.specs.Symbol.{Symbols}
use Rattle.c_parse.specs.Programs.{ProgramAt}
use Rattle.c_typed.specs.Faults.{Fault}
use Rattle.c_typed.specs.Programs.{faults_of}

-- a rule that is broken twice at one place is told with one line there
abbrev pub HasOneLine : Ast → Type 0
HasOneLine a = (f g : Fault) → Contains (faults_of a) f → Contains (faults_of a) g → f.at ≡ g.at → f.rule ≡ g.rule → f.line ≡ g.line

-- so it is in every tree that tokens have
abbrev pub OneLine : Type 0
OneLine = (ts : Symbols) (a : Ast) → ProgramAt Anywhere ts a.items → HasOneLine a
