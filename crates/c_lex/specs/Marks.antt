-- Punctuators (C99 6.4.6), and the bytes that spell them.
use Rattle.std.specs.Prelude.{ℕ, Bool, List, [], ◌∷◌, Option, bytes_eq, codes}
use denote.Enum.Bare.{sameb}
use Rattle.c_lex.specs.declared.token.Mark.{Mark}
use Rattle.c_lex.specs.declared.token.Mark.TheVariants as marks
use Rattle.c_lex.specs.contracts.token.Mark as mark_type
use Rattle.c_lex.specs.Words.{found_text, look_up}

abbrev pub same_mark : Mark → Mark → Bool
same_mark = sameb mark_type.the_type

-- the marks; that longer ones come first is of use to who looks for one at the front of bytes
unfoldable pub spellings : List (List ℕ × Mark)
spellings =
    (codes "<<=", marks.ShiftLeftAssign) ∷ (codes ">>=", marks.ShiftRightAssign) ∷ (codes "->", marks.Arrow)
    ∷ (codes "<=", marks.LessEqual) ∷ (codes ">=", marks.GreaterEqual) ∷ (codes "==", marks.Equal) ∷ (codes "!=", marks.NotEqual)
    ∷ (codes "&&", marks.AndAnd) ∷ (codes "||", marks.OrOr) ∷ (codes "<<", marks.ShiftLeft) ∷ (codes ">>", marks.ShiftRight)
    ∷ (codes "+=", marks.PlusAssign) ∷ (codes "-=", marks.MinusAssign) ∷ (codes "*=", marks.StarAssign)
    ∷ (codes "/=", marks.SlashAssign) ∷ (codes "%=", marks.PercentAssign) ∷ (codes "&=", marks.AndAssign)
    ∷ (codes "|=", marks.OrAssign) ∷ (codes "^=", marks.XorAssign) ∷ (codes "++", marks.PlusPlus) ∷ (codes "--", marks.MinusMinus)
    ∷ (codes "{", marks.OpenBrace) ∷ (codes "}", marks.CloseBrace) ∷ (codes "(", marks.OpenParen) ∷ (codes ")", marks.CloseParen)
    ∷ (codes "[", marks.OpenBracket) ∷ (codes "]", marks.CloseBracket) ∷ (codes ";", marks.Semicolon) ∷ (codes ",", marks.Comma)
    ∷ (codes ".", marks.Dot) ∷ (codes "=", marks.Assign) ∷ (codes "+", marks.Plus) ∷ (codes "-", marks.Minus)
    ∷ (codes "*", marks.Star) ∷ (codes "/", marks.Slash) ∷ (codes "%", marks.Percent) ∷ (codes "&", marks.And)
    ∷ (codes "|", marks.Or) ∷ (codes "^", marks.Xor) ∷ (codes "~", marks.Tilde) ∷ (codes "!", marks.Not) ∷ (codes "<", marks.Less)
    ∷ (codes ">", marks.Greater) ∷ []

-- the mark that the text spells, if any
unfoldable pub mark_of : List ℕ → Option Mark
mark_of text = look_up (λ row. bytes_eq text row.0) (λ row. row.1) spellings

-- how the mark is written: the text beside it
unfoldable pub mark_text : Mark → List ℕ
mark_text mark = found_text (look_up (λ row. same_mark row.1 mark) (λ row. row.0) spellings)
