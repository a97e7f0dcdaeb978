-- The piece that stands at a place.
use Rattle.std.specs.Prelude.{◌≡◌, ℕ, ◌<◌, ◌≤◌, List, length, slice_range, Some, None}
use Rattle.c_lex.specs.declared.piece.Piece.{Piece}
use Rattle.c_lex.specs.PieceOf.{piece_of}

-- From start to end the bytes are this piece, and no longer one begins at start (C99 6.4p4).
pub record IsPiece (bytes : List ℕ) (start end : ℕ) (piece : Piece) : Type 0 where
  pub within : end ≤ length bytes
  pub is : piece_of (slice_range bytes start end) ≡ Some piece
  pub longest : (further : ℕ) → end < further → further ≤ length bytes → piece_of (slice_range bytes start further) ≡ None

-- this piece stands at this place
abbrev pub StandsAt : List ℕ → ℕ → Piece → Type 0
StandsAt bytes at piece = (end : ℕ) × IsPiece bytes at end piece

-- bytes are left at this place, and no piece begins there
pub record NoPiece (bytes : List ℕ) (at : ℕ) : Type 0 where
  pub left : at < length bytes
  pub none : (end : ℕ) → end ≤ length bytes → piece_of (slice_range bytes at end) ≡ None
