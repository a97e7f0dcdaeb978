-- How far a source was read.
use Rattle.std.specs.Prelude.{◌≡◌, ℕ, ◌+◌, ◌<◌, ◌≤◌, Bool, true, false, List, [], ◌∷◌, ◌++◌, length, Option, Some, None}
use Rattle.c_lex.specs.declared.fault.LexFault.{LexFault}
use Rattle.c_lex.specs.declared.fault.LexFault.TheVariants as faults
use Rattle.c_lex.specs.declared.piece.Piece.{Piece}
use Rattle.c_lex.specs.declared.piece.Piece.TheVariants.{Gap, Word, Name, Number, Mark, BadNumber, BigNumber, OpenComment}
use Rattle.c_lex.specs.declared.token.Kind.{Kind}
use Rattle.c_lex.specs.declared.token.Token.{Token}
use Rattle.c_lex.specs.Bytes.{line_at}
use Rattle.c_lex.specs.Names.{each_once, name_texts, with_name}
use Rattle.c_lex.specs.Tokens.{IsKind, Tokens}
use Rattle.dfi_base.specs.Limits.{token_limit}

-- the bytes before this place are these tokens, within the limit, with these names, and the place is on this line
pub record IsRead (bytes : List ℕ) (tokens : List Token) (names : List (List ℕ)) (line at : ℕ) : Type 0 where
  pub within : at ≤ length bytes
  pub stand : Tokens bytes names 0 tokens at
  pub few : length tokens ≤ token_limit
  pub named : names ≡ each_once (name_texts bytes tokens)
  pub here : line ≡ line_at bytes at

-- the fault that a piece is at its place, if any
abbrev pub fault_of : Piece → ℕ → Option LexFault
fault_of Gap at = None
fault_of (Word w) at = None
fault_of Name at = None
fault_of (Number n) at = None
fault_of (Mark m) at = None
fault_of BadNumber at = Some (faults.BadNumber at)
fault_of BigNumber at = Some (faults.BigNumber at)
fault_of OpenComment at = Some (faults.OpenComment at)

-- the names, with that of a token behind them where it is new
abbrev pub names_with : List (List ℕ) → List ℕ → Piece → List (List ℕ)
names_with names text Gap = names
names_with names text (Word w) = names
names_with names text Name = with_name names text
names_with names text (Number n) = names
names_with names text (Mark m) = names
names_with names text BadNumber = names
names_with names text BigNumber = names
names_with names text OpenComment = names

abbrev pub is_gap : Piece → Bool
is_gap Gap = true
is_gap (Word w) = false
is_gap Name = false
is_gap (Number n) = false
is_gap (Mark m) = false
is_gap BadNumber = false
is_gap BigNumber = false
is_gap OpenComment = false

-- a token with this text is behind the earlier ones
pub record IsAdded (old : List Token) (text : List ℕ) (piece : Piece) (start line : ℕ) (new : List Token) (names : List (List ℕ)) : Type 0 where
  pub kind : Kind
  pub is : IsKind names text piece kind
  pub added : new ≡ old ++ (record { kind = kind; start = start; end = start + length text; line = record { 0 = line } }) ∷ []
  pub room : length old < token_limit

-- a token at this place is one too many behind so many
abbrev pub Overflows : ℕ → ℕ → LexFault → Type 0
Overflows count start (faults.BadByte at) = ⊥
Overflows count start (faults.BadNumber at) = ⊥
Overflows count start (faults.BigNumber at) = ⊥
Overflows count start (faults.OpenComment at) = ⊥
Overflows count start (faults.TooMany at) = (at ≡ start) × (count ≡ token_limit)
Overflows count start faults.Memory = Unit {0}
