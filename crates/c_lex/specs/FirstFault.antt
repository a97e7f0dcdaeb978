-- The first fault in the text, and what a source means.
use Rattle.std.specs.Prelude.{◌≡◌, ℕ, ◌≤◌, Bool, true, false, List, length, IsTrue, IfSome, Option, Some, None, Result, Ok, Err}
use Rattle.dfi_base.specs.Gives.{Gives}
use Rattle.c_lex.specs.declared.fault.LexFault.{LexFault}
use Rattle.c_lex.specs.declared.fault.LexFault.TheVariants as faults
use Rattle.c_lex.specs.declared.piece.Piece.{Piece}
use Rattle.c_lex.specs.declared.piece.Piece.TheVariants.{Gap, Word, Name, Number, Mark, BadNumber, BigNumber, OpenComment}
use Rattle.c_lex.specs.declared.token.Token.{Token}
use Rattle.c_lex.specs.IsLexed.{Lexed, LexesTo}
use Rattle.c_lex.specs.IsPiece.{StandsAt, NoPiece}
use Rattle.c_lex.specs.Tokens.{Tokens}
use Rattle.dfi_base.specs.Limits.{token_limit}

-- before this place the bytes are so many tokens, with white space and comments
pub record TokensBefore (bytes : List ℕ) (count at : ℕ) : Type 0 where
  pub names : List (List ℕ)
  pub tokens : List Token
  pub stand : Tokens bytes names 0 tokens at
  pub count_is : length tokens ≡ count

-- the same, of a number of tokens within the limit
abbrev pub IsSound : List ℕ → ℕ → Type 0
IsSound bytes at = (count : ℕ) × (count ≤ token_limit) × TokensBefore bytes count at

-- a token of any kind
abbrev pub is_token : Piece → Bool
is_token Gap = false
is_token (Word w) = true
is_token Name = true
is_token (Number n) = true
is_token (Mark m) = true
is_token BadNumber = false
is_token BigNumber = false
is_token OpenComment = false

-- Before the place of the fault all is sound, and at it the fault stands. A token behind as many as there may be is one too many; what is no
-- token at that place is its own fault.
abbrev pub IsFirstFault : List ℕ → LexFault → Type 0
IsFirstFault bytes (faults.BadByte at) = IsSound bytes at × NoPiece bytes at
IsFirstFault bytes (faults.BadNumber at) = IsSound bytes at × StandsAt bytes at BadNumber
IsFirstFault bytes (faults.BigNumber at) = IsSound bytes at × StandsAt bytes at BigNumber
IsFirstFault bytes (faults.OpenComment at) = IsSound bytes at × StandsAt bytes at OpenComment
IsFirstFault bytes (faults.TooMany at) = TokensBefore bytes token_limit at × ((piece : Piece) × IsTrue (is_token piece) × StandsAt bytes at piece)
IsFirstFault bytes faults.Memory = ⊥

-- the bytes mean this: their tokens, or the first fault
abbrev pub Means : List ℕ → Result Lexed LexFault → Type 0
Means bytes (Ok l) = LexesTo bytes l
Means bytes (Err fault) = IsFirstFault bytes fault

-- a fault that a call tells of the bytes; want of memory tells nothing
abbrev pub told : LexFault → Option LexFault
told (faults.BadByte at) = Some (faults.BadByte at)
told (faults.BadNumber at) = Some (faults.BadNumber at)
told (faults.BigNumber at) = Some (faults.BigNumber at)
told (faults.OpenComment at) = Some (faults.OpenComment at)
told (faults.TooMany at) = Some (faults.TooMany at)
told faults.Memory = None

-- a fault that a call tells is the first of the bytes
abbrev pub Tells : List ℕ → LexFault → Type 0
Tells bytes fault = IfSome (told fault) (λ f. IsFirstFault bytes f)

-- whatever the bytes mean is answered, unless memory was wanted
abbrev pub GivesMeaning : List ℕ → Result Lexed LexFault → Type 0
GivesMeaning bytes result = (meaning : Result Lexed LexFault) → Means bytes meaning → Gives (λ lexed. lexed) told result meaning
