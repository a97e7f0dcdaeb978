-- The piece at the front of bytes, from left to right.
use Rattle.std.specs.Prelude.{ℕ, suc, ◌+◌, not, List, [], ◌∷◌, length, take, drop, Option, Some, None, option_map, if◌then◌else◌, codes}
use Rattle.std.specs.List.{prefix_len}
use Rattle.c_lex.specs.declared.piece.Piece.{Piece}
use Rattle.c_lex.specs.declared.piece.Piece.TheVariants.{Gap, Mark, OpenComment}
use Rattle.c_lex.specs.declared.token.Mark as marks
use Rattle.c_lex.specs.Bytes.{is_white, is_word_byte, is_newline}
use Rattle.c_lex.specs.Marks.{spellings}
use Rattle.c_lex.specs.Words.{look_up}
use Rattle.c_lex.specs.PieceOf.{begins, run_piece}

-- the length of the line's rest
abbrev pub line_comment_length : List ℕ → ℕ
line_comment_length bytes = prefix_len (λ b. not (is_newline b)) bytes

-- how many bytes come before the end of the first */
unfoldable pub close_at : List ℕ → Option ℕ
close_at [] = None
close_at (b ∷ bs) = if begins (b ∷ bs) (codes "*/") then Some 2 else option_map suc (close_at bs)

-- a comment in stars, and its length
unfoldable pub block_comment : List ℕ → ℕ × Piece
block_comment bytes = elim (close_at (drop 2 bytes)) [ None ↦ (length bytes, OpenComment) | Some n ↦ (n + 2, Gap) ]

-- the first mark of the table that the bytes begin with, and its length
unfoldable pub mark_at : List ℕ → Option (ℕ × marks.Mark)
mark_at bytes = look_up (λ row. begins bytes row.0) (λ row. (length row.0, row.1)) spellings

-- the piece at the front, and its length
unfoldable pub piece_at : List ℕ → Option (ℕ × Piece)
piece_at [] = None
piece_at (b ∷ bs) =
    if is_white b then Some (1, Gap)
    else if is_word_byte b then Some (prefix_len is_word_byte (b ∷ bs), run_piece (take (prefix_len is_word_byte (b ∷ bs)) (b ∷ bs)))
    else if begins (b ∷ bs) (codes "//") then Some (line_comment_length (b ∷ bs), Gap)
    else if begins (b ∷ bs) (codes "/*") then Some (block_comment (b ∷ bs))
    else option_map (λ m. (m.0, Mark m.1)) (mark_at (b ∷ bs))
