-- A comment is to the tokens what a space is (C99 5.1.1.2p1.3, 6.4.9).
use Rattle.std.specs.Prelude.{◌≡◌, ℕ, List, ◌∷◌, ◌++◌, map, take, drop, slice_get, Some, Result, Ok, Err}
use Rattle.c_lex.specs.declared.fault.LexFault.{LexFault}
use Rattle.c_lex.specs.declared.fault.LexFault.TheVariants as faults
use Rattle.c_lex.specs.declared.piece.Piece.TheVariants.{Gap}
use Rattle.c_lex.specs.FirstFault.{IsSound, Means}
use Rattle.c_lex.specs.IsLexed.{Lexed}
use Rattle.c_lex.specs.IsPiece.{IsPiece}

-- A comment stands from start to end, where all before it is sound. It begins with a slash; white space does not.
pub record IsComment (bytes : List ℕ) (start end : ℕ) : Type 0 where
  pub before : IsSound bytes start
  pub whole : IsPiece bytes start end Gap
  pub slash : slice_get bytes start ≡ Some 47

-- the bytes with one space in place of those from start to end
abbrev pub with_space : List ℕ → ℕ → ℕ → List ℕ
with_space bytes start end = take start bytes ++ 32 ∷ drop end bytes

-- the same kinds of tokens in the same order, and the same names: only places may differ
pub record SameTokens (l m : Lexed) : Type 0 where
  pub kinds : map (λ t. t.kind) l.tokens ≡ map (λ t. t.kind) m.tokens
  pub names : l.names ≡ m.names

-- the fault at another place
abbrev pub placed : LexFault → ℕ → LexFault
placed (faults.BadByte at) place = faults.BadByte place
placed (faults.BadNumber at) place = faults.BadNumber place
placed (faults.BigNumber at) place = faults.BigNumber place
placed (faults.OpenComment at) place = faults.OpenComment place
placed (faults.TooMany at) place = faults.TooMany place
placed faults.Memory place = faults.Memory

-- the same tokens or the same fault, but for places
abbrev pub SameButPlaces : Result Lexed LexFault → Result Lexed LexFault → Type 0
SameButPlaces (Ok l) (Ok m) = SameTokens l m
SameButPlaces (Ok l) (Err g) = ⊥
SameButPlaces (Err f) (Ok m) = ⊥
SameButPlaces (Err f) (Err g) = (place : ℕ) × (g ≡ placed f place)

-- what bytes mean, they mean with a space in place of a comment, but for places
abbrev pub CommentIsSpace : Type 0
CommentIsSpace = (bytes : List ℕ) (start end : ℕ) (a : Result Lexed LexFault) → IsComment bytes start end → Means bytes a
    → (b : Result Lexed LexFault) × Means (with_space bytes start end) b × SameButPlaces a b
