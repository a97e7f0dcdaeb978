-- Names, numbered in the order in which they are first seen.
use Rattle.std.specs.Prelude.{ℕ, List, [], ◌∷◌, ◌++◌, bytes_eq, filter_map, fold, Option, Some, None, slice_range, if◌then◌else◌}
use Rattle.std.specs.List.{list_any}
use Rattle.c_lex.specs.declared.token.Kind.{Kind}
use Rattle.c_lex.specs.declared.token.Kind.TheVariants.{Word, Id, Num, Mark}
use Rattle.c_lex.specs.declared.token.Token.{Token}

-- the names, with this one behind them unless it is there
abbrev pub with_name : List (List ℕ) → List ℕ → List (List ℕ)
with_name names text = if list_any (bytes_eq text) names then names else names ++ text ∷ []

-- the texts, each once, in the order in which they are first seen
abbrev pub each_once : List (List ℕ) → List (List ℕ)
each_once texts = fold with_name [] texts

-- the text, where the kind is that of an identifier
abbrev pub if_name : Kind → List ℕ → Option (List ℕ)
if_name (Word w) text = None
if_name (Id n) text = Some text
if_name (Num n) text = None
if_name (Mark m) text = None

-- the texts of the identifiers among the tokens
abbrev pub name_texts : List ℕ → List Token → List (List ℕ)
name_texts bytes tokens = filter_map (λ t. if_name t.kind (slice_range bytes t.start t.end)) tokens
