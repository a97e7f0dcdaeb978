-- Each token is read from its spelling, and a space ends it.
use Rattle.std.proofs.Common.{◌≡◌, ℕ, ◌≤◌, List, [], ◌∷◌, ◌++◌, Some, None, refl, sym, ap, subst, ◌∙◌}
use Rattle.std.specs.Prelude.{ℤ, pos, slice_get}
use Rattle.c_lex.specs.declared.piece.Piece.{Piece}
use Rattle.c_lex.specs.declared.piece.Piece.TheVariants as pieces
use Rattle.c_lex.specs.declared.token.Kind.{Kind}
use Rattle.c_lex.specs.declared.token.Mark.{Mark}
use Rattle.c_lex.specs.declared.token.Word.{Word}
use Rattle.c_lex.specs.Bytes.{newlines}
use Rattle.c_lex.specs.Marks.{mark_of, mark_text, spellings}
use Rattle.c_lex.specs.PieceOf.{piece_of}
use Rattle.c_lex.specs.Tokens.{IsKind}
use Rattle.c_lex.specs.Words.{word_of, word_text, words}
use Rattle.c_print.specs.Spelling.{of_name, spelled}
use Rattle.c_print.proofs.Runs.{IsRun, decimal_piece, decimal_run, name_run, run_ends, run_line}

-- text is the token p, a space ends it, and it stands on one line
pub record Stands (text : List ℕ) (p : Piece) : Type 0 where
  pub is : piece_of text ≡ Some p
  pub ends : piece_of (text ++ 32 ∷ []) ≡ None
  pub line : newlines text ≡ 0

pub word_stands : (w : Word) → Stands (word_text w) (pieces.Word w)
unfolding piece_of word_of words word_text
word_stands Word.Int = record { is = refl; ends = refl; line = refl }
word_stands Word.Void = record { is = refl; ends = refl; line = refl }
word_stands Word.Struct = record { is = refl; ends = refl; line = refl }
word_stands Word.If = record { is = refl; ends = refl; line = refl }
word_stands Word.Else = record { is = refl; ends = refl; line = refl }
word_stands Word.While = record { is = refl; ends = refl; line = refl }
word_stands Word.For = record { is = refl; ends = refl; line = refl }
word_stands Word.Return = record { is = refl; ends = refl; line = refl }
word_stands Word.Break = record { is = refl; ends = refl; line = refl }
word_stands Word.Continue = record { is = refl; ends = refl; line = refl }
word_stands Word.Par = record { is = refl; ends = refl; line = refl }
word_stands Word.Sizeof = record { is = refl; ends = refl; line = refl }
word_stands Word.Null = record { is = refl; ends = refl; line = refl }
word_stands Word.Unused = record { is = refl; ends = refl; line = refl }

pub mark_stands : (m : Mark) → Stands (mark_text m) (pieces.Mark m)
unfolding piece_of mark_of spellings mark_text
mark_stands Mark.OpenBrace = record { is = refl; ends = refl; line = refl }
mark_stands Mark.CloseBrace = record { is = refl; ends = refl; line = refl }
mark_stands Mark.OpenParen = record { is = refl; ends = refl; line = refl }
mark_stands Mark.CloseParen = record { is = refl; ends = refl; line = refl }
mark_stands Mark.OpenBracket = record { is = refl; ends = refl; line = refl }
mark_stands Mark.CloseBracket = record { is = refl; ends = refl; line = refl }
mark_stands Mark.Semicolon = record { is = refl; ends = refl; line = refl }
mark_stands Mark.Comma = record { is = refl; ends = refl; line = refl }
mark_stands Mark.Dot = record { is = refl; ends = refl; line = refl }
mark_stands Mark.Arrow = record { is = refl; ends = refl; line = refl }
mark_stands Mark.Assign = record { is = refl; ends = refl; line = refl }
mark_stands Mark.Plus = record { is = refl; ends = refl; line = refl }
mark_stands Mark.Minus = record { is = refl; ends = refl; line = refl }
mark_stands Mark.Star = record { is = refl; ends = refl; line = refl }
mark_stands Mark.Slash = record { is = refl; ends = refl; line = refl }
mark_stands Mark.Percent = record { is = refl; ends = refl; line = refl }
mark_stands Mark.And = record { is = refl; ends = refl; line = refl }
mark_stands Mark.Or = record { is = refl; ends = refl; line = refl }
mark_stands Mark.Xor = record { is = refl; ends = refl; line = refl }
mark_stands Mark.Tilde = record { is = refl; ends = refl; line = refl }
mark_stands Mark.Not = record { is = refl; ends = refl; line = refl }
mark_stands Mark.Less = record { is = refl; ends = refl; line = refl }
mark_stands Mark.Greater = record { is = refl; ends = refl; line = refl }
mark_stands Mark.LessEqual = record { is = refl; ends = refl; line = refl }
mark_stands Mark.GreaterEqual = record { is = refl; ends = refl; line = refl }
mark_stands Mark.Equal = record { is = refl; ends = refl; line = refl }
mark_stands Mark.NotEqual = record { is = refl; ends = refl; line = refl }
mark_stands Mark.AndAnd = record { is = refl; ends = refl; line = refl }
mark_stands Mark.OrOr = record { is = refl; ends = refl; line = refl }
mark_stands Mark.ShiftLeft = record { is = refl; ends = refl; line = refl }
mark_stands Mark.ShiftRight = record { is = refl; ends = refl; line = refl }
mark_stands Mark.PlusAssign = record { is = refl; ends = refl; line = refl }
mark_stands Mark.MinusAssign = record { is = refl; ends = refl; line = refl }
mark_stands Mark.StarAssign = record { is = refl; ends = refl; line = refl }
mark_stands Mark.SlashAssign = record { is = refl; ends = refl; line = refl }
mark_stands Mark.PercentAssign = record { is = refl; ends = refl; line = refl }
mark_stands Mark.AndAssign = record { is = refl; ends = refl; line = refl }
mark_stands Mark.OrAssign = record { is = refl; ends = refl; line = refl }
mark_stands Mark.XorAssign = record { is = refl; ends = refl; line = refl }
mark_stands Mark.ShiftLeftAssign = record { is = refl; ends = refl; line = refl }
mark_stands Mark.ShiftRightAssign = record { is = refl; ends = refl; line = refl }
mark_stands Mark.PlusPlus = record { is = refl; ends = refl; line = refl }
mark_stands Mark.MinusMinus = record { is = refl; ends = refl; line = refl }

-- a token that a source may have: its name is one, and its number has a place
abbrev pub IsReal : List (List ℕ) → Kind → Type 0
IsReal names (Kind.Word w) = Unit {0}
IsReal names (Kind.Id n) = (text : List ℕ) × (slice_get names n ≡ Some text) × (piece_of text ≡ Some pieces.Name)
IsReal names (Kind.Num k) = (n : ℕ) × (k ≡ pos n) × (n ≤ 2147483647)
IsReal names (Kind.Mark m) = Unit {0}

pub record Spells (names : List (List ℕ)) (k : Kind) : Type 0 where
  pub piece : Piece
  pub stands : Stands (spelled names k) piece
  pub kind : IsKind names (spelled names k) piece k

run_stands : (text : List ℕ) (p : Piece) → piece_of text ≡ Some p → IsRun text → Stands text p
run_stands text p e r = record { is = e; ends = run_ends text r; line = run_line text r }

pub spells : (names : List (List ℕ)) (k : Kind) → IsReal names k → Spells names k
spells names (Kind.Word w) r = record { piece = pieces.Word w; stands = word_stands w; kind = refl }
spells names (Kind.Id n) (text, e, p) =
    let same : of_name (slice_get names n) ≡ text = ap of_name e in
    record {
      piece = pieces.Name;
      stands = subst (λ (t : List ℕ). Stands t pieces.Name) (sym same) (run_stands text pieces.Name p (name_run text p));
      kind = (n, refl, e ∙ ap Some (sym same));
    }
spells names (Kind.Num k) (n, e, small) =
    subst (λ (z : ℤ). Spells names (Kind.Num z)) (sym e)
    (record { piece = pieces.Number (pos n); stands = run_stands _ _ (decimal_piece n small) (decimal_run n small); kind = refl })
spells names (Kind.Mark m) r = record { piece = pieces.Mark m; stands = mark_stands m; kind = refl }
