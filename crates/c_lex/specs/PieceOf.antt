-- What bytes are, taken as one piece of a source.
use Rattle.std.specs.Prelude.{ℕ, ◌-◌, Bool, true, false, ◌||◌, ◌==◌, not, nat_eq, nat_le, List, [], ◌∷◌, length, take, drop, Option, Some, None, option_map, pos, if◌then◌else◌, codes}
use Rattle.std.specs.Char.{is_ascii_digit}
use Rattle.std.specs.List.{list_all, starts_with}
use Rattle.c_lex.specs.declared.piece.Piece.{Piece}
use Rattle.c_lex.specs.declared.piece.Piece.TheVariants.{Gap, Word, Name, Number, Mark, BadNumber, BigNumber, OpenComment}
use Rattle.c_lex.specs.declared.token.Word as words
use Rattle.c_lex.specs.Bytes.{is_white, is_word_byte, is_newline}
use Rattle.c_lex.specs.Constant.{constant_of}
use Rattle.c_lex.specs.Words.{word_of}
use Rattle.c_lex.specs.Marks.{mark_of}

-- the bytes begin with these
abbrev pub begins : List ℕ → List ℕ → Bool
begins bytes front = starts_with nat_eq bytes front

-- a star and a slash stand in the bytes, one behind the other
abbrev pub has_close : List ℕ → Bool
has_close [] = false
has_close (b ∷ bs) = begins (b ∷ bs) (codes "*/") || has_close bs

-- a constant by its value, where it has one
abbrev pub number_piece : Option ℕ → Piece
number_piece None = BadNumber
number_piece (Some n) = if nat_le n 2147483647 then Number (pos n) else BigNumber

-- a reserved word, or else a name
abbrev pub word_piece : Option words.Word → Piece
word_piece None = Name
word_piece (Some w) = Word w

-- a run of letters, digits and '_': with a digit at the front it is a number or none
abbrev pub run_piece : List ℕ → Piece
run_piece [] = Name
run_piece (b ∷ bs) = if is_ascii_digit b then number_piece (constant_of (b ∷ bs)) else word_piece (word_of (b ∷ bs))

-- all bytes but the last
abbrev pub but_last : List ℕ → List ℕ
but_last bytes = take (length bytes - 1) bytes

-- a comment in stars with these bytes behind its first two: a gap where it is closed
abbrev pub block_piece : List ℕ → Piece
block_piece inside = if has_close inside then Gap else OpenComment

-- the piece, where the test passes
abbrev pub when : Bool → Piece → Option Piece
when true piece = Some piece
when false piece = None

-- One byte of white space; a run of letters, digits and '_'; a comment on one line, with no newline; a comment in stars, which is
-- closed at its end or not at all; or a mark. Nothing else is a piece. (C99 6.4, 6.4.9; but a backslash joins no lines, so a comment on
-- one line ends at the first newline.)
unfoldable pub piece_of : List ℕ → Option Piece
piece_of [] = None
piece_of (b ∷ bs) =
    if is_white b then when (length bs == 0) Gap
    else if is_word_byte b then when (list_all is_word_byte bs) (run_piece (b ∷ bs))
    else if begins (b ∷ bs) (codes "//") then when (list_all (λ c. not (is_newline c)) bs) Gap
    else if begins (b ∷ bs) (codes "/*") then when (not (has_close (but_last (drop 1 bs)))) (block_piece (drop 1 bs))
    else option_map Mark (mark_of (b ∷ bs))
