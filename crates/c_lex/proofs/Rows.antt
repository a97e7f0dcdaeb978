-- Worked rows: pieces and their values, by computation.
use Rattle.std.proofs.Common.{◌≡◌, [], ◌∷◌, Some, None, refl}
use Rattle.std.specs.Prelude.{codes, pos}
use Rattle.c_lex.specs.declared.piece.Piece.TheVariants.{Gap, Word, Name, Number, Mark, BadNumber, BigNumber, OpenComment}
use Rattle.c_lex.specs.declared.token.Mark.TheVariants as marks
use Rattle.c_lex.specs.declared.token.Word.TheVariants as words
use Rattle.c_lex.specs.Bytes.{line_at}
use Rattle.c_lex.specs.Constant.{constant_of}
use Rattle.c_lex.specs.Marks.{mark_of, spellings}
use Rattle.c_lex.specs.Names.{each_once}
use Rattle.c_lex.specs.PieceOf.{piece_of}
use Rattle.c_lex.specs.Words.{word_of, words as all_words}

hexadecimal : piece_of (codes "0x1F") ≡ Some (Number (pos 31))
unfolding piece_of constant_of
hexadecimal = refl

octal : piece_of (codes "017") ≡ Some (Number (pos 15))
unfolding piece_of constant_of
octal = refl

bad_octal : piece_of (codes "08") ≡ Some BadNumber
unfolding piece_of constant_of
bad_octal = refl

no_digit : piece_of (codes "0x") ≡ Some BadNumber
unfolding piece_of constant_of
no_digit = refl

letter_behind : piece_of (codes "1a") ≡ Some BadNumber
unfolding piece_of constant_of
letter_behind = refl

greatest : piece_of (codes "2147483647") ≡ Some (Number (pos 2147483647))
unfolding piece_of constant_of
greatest = refl

one_more : piece_of (codes "2147483648") ≡ Some BigNumber
unfolding piece_of constant_of
one_more = refl

reserved : piece_of (codes "while") ≡ Some (Word words.While)
unfolding piece_of word_of all_words
reserved = refl

unused : piece_of (codes "goto") ≡ Some (Word words.Unused)
unfolding piece_of word_of all_words
unused = refl

name : piece_of (codes "_x1") ≡ Some Name
unfolding piece_of word_of all_words
name = refl

three : piece_of (codes ">>=") ≡ Some (Mark marks.ShiftRightAssign)
unfolding piece_of mark_of spellings
three = refl

two_marks : piece_of (codes "+++") ≡ None
unfolding piece_of mark_of spellings
two_marks = refl

quote : piece_of (34 ∷ []) ≡ None
unfolding piece_of mark_of spellings
quote = refl

whole_comment : piece_of (codes "/* */") ≡ Some Gap
unfolding piece_of
whole_comment = refl

past_comment : piece_of (codes "/* */*") ≡ None
unfolding piece_of
past_comment = refl

open_comment : piece_of (codes "/*/") ≡ Some OpenComment
unfolding piece_of
open_comment = refl

high_byte : piece_of (47 ∷ 47 ∷ 200 ∷ 92 ∷ []) ≡ Some Gap
unfolding piece_of
high_byte = refl

past_line : piece_of (47 ∷ 47 ∷ 92 ∷ 10 ∷ []) ≡ None
unfolding piece_of
past_line = refl

third_line : line_at (97 ∷ 10 ∷ 10 ∷ 98 ∷ []) 3 ≡ 3
third_line = refl

two_names : each_once (codes "b" ∷ codes "a" ∷ codes "b" ∷ []) ≡ codes "b" ∷ codes "a" ∷ []
two_names = refl
