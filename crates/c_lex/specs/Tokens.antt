-- The tokens that bytes are made of.
use Rattle.std.specs.Prelude.{◌≡◌, ℕ, List, [], ◌∷◌, slice_get, slice_range, Some}
use Rattle.c_lex.specs.declared.piece.Piece.{Piece}
use Rattle.c_lex.specs.declared.piece.Piece.TheVariants.{Gap, Word, Name, Number, Mark, BadNumber, BigNumber, OpenComment}
use Rattle.c_lex.specs.declared.token.Kind.{Kind}
use Rattle.c_lex.specs.declared.token.Token.{Token}
use Rattle.c_lex.specs.Bytes.{line_at}
use Rattle.c_lex.specs.IsPiece.{IsPiece}

-- from one place to another the bytes are white space and comments
pub data IsGap (bytes : List ℕ) : ℕ → ℕ → Type 0 where
  none : (at : ℕ) → IsGap bytes at at
  more : (start end to : ℕ) → IsPiece bytes start end Gap → IsGap bytes end to → IsGap bytes start to

-- a piece with this text is a token of this kind; that of a name is its number among the names
abbrev pub IsKind : List (List ℕ) → List ℕ → Piece → Kind → Type 0
IsKind names text Gap kind = ⊥
IsKind names text (Word w) kind = kind ≡ Kind.Word w
IsKind names text Name kind = (number : ℕ) × (kind ≡ Kind.Id number) × (slice_get names number ≡ Some text)
IsKind names text (Number n) kind = kind ≡ Kind.Num n
IsKind names text (Mark m) kind = kind ≡ Kind.Mark m
IsKind names text BadNumber kind = ⊥
IsKind names text BigNumber kind = ⊥
IsKind names text OpenComment kind = ⊥

-- the slice of the bytes from the token's start to its end is a piece of its kind, and the line is that of its first byte
pub record IsToken (bytes : List ℕ) (names : List (List ℕ)) (t : Token) : Type 0 where
  pub piece : Piece
  pub stands : IsPiece bytes t.start t.end piece
  pub kind : IsKind names (slice_range bytes t.start t.end) piece t.kind
  pub line : t.line.0 ≡ line_at bytes t.start

-- from one place to another the bytes are these tokens, with white space and comments between
abbrev pub Tokens : List ℕ → List (List ℕ) → ℕ → List Token → ℕ → Type 0
Tokens bytes names from [] to = IsGap bytes from to
Tokens bytes names from (t ∷ ts) to = IsGap bytes from t.start × IsToken bytes names t × Tokens bytes names t.end ts to
