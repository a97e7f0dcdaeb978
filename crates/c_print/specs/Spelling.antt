-- How a token is written.
use Rattle.std.specs.Prelude.{ℕ, List, [], Option, Some, None, slice_get}
use Rattle.std.specs.Fmt.{signed_decimal}
use Rattle.c_lex.specs.declared.token.Kind.{Kind}
use Rattle.c_lex.specs.Marks.{mark_text}
use Rattle.c_lex.specs.Words.{word_text}

-- the name of a number, and nothing where there is none
abbrev pub of_name : Option (List ℕ) → List ℕ
of_name None = []
of_name (Some name) = name

-- A word and a mark are written as the table says from which they are read. A number is written in base 10.
abbrev pub spelled : List (List ℕ) → Kind → List ℕ
spelled names (Kind.Word w) = word_text w
spelled names (Kind.Id n) = of_name (slice_get names n)
spelled names (Kind.Num k) = signed_decimal k
spelled names (Kind.Mark m) = mark_text m
