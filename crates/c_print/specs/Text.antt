-- The canonical text of a tree: its tokens, with one space between each two.
use Rattle.std.specs.Prelude.{ℕ, List, [], ◌∷◌}
use Rattle.std.specs.List.{join_by}
use Rattle.c_ast.specs.Ast.{Ast}
use Rattle.c_print.specs.TreeTokens.{Kinds, tokens_of}
use Rattle.c_print.specs.Spelling.{spelled}

abbrev pub spaced : List (List ℕ) → Kinds → List ℕ
spaced names kinds = join_by (spelled names) (32 ∷ []) kinds

abbrev pub text_of : Ast → List ℕ
text_of ast = spaced ast.names (tokens_of ast.items)
