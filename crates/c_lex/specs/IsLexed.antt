-- What a source is lexed to.
use Rattle.std.specs.Prelude.{◌≡◌, ◌≢◌, ℕ, ◌-◌, ◌<◌, ◌≤◌, ◌^◌, ◌≤ℤ◌, List, [], ◌∷◌, length, pos, slice_index}
use Rattle.std.specs.List.{AllByRecursion}
use Rattle.dfi_base.specs.declared.numbers.Line.{Line}
use Rattle.c_lex.specs.declared.token.Kind.{Kind}
use Rattle.c_lex.specs.declared.token.Kind.TheVariants.{Word, Id, Num, Mark}
use Rattle.c_lex.specs.declared.token.Token.{Token}
use Rattle.c_lex.specs.Bytes.{line_at}
use Rattle.c_lex.specs.Names.{each_once, name_texts}
use Rattle.c_lex.specs.Tokens.{Tokens}
use Rattle.dfi_base.specs.Limits.{token_limit}

-- tokens, names by their numbers, and the line of the last byte
pub record Lexed : Type 0 where
  pub tokens : List Token
  pub names : List (List ℕ)
  pub last : Line

-- The bytes have these tokens, no more than the limit, and these names in the order in which they are first seen. The last line is that of
-- the last byte, and 1 where there is none.
pub record LexesTo (bytes : List ℕ) (l : Lexed) : Type 0 where
  pub tokens : Tokens bytes l.names 0 l.tokens (length bytes)
  pub names : l.names ≡ each_once (name_texts bytes l.tokens)
  pub last : l.last.0 ≡ line_at bytes (length bytes - 1)
  pub few : length l.tokens ≤ token_limit

-- ---- what follows for the tokens, for a reader who has no bytes

-- the spans of the tokens stand in order, none empty, from this place to the end
abbrev pub SpansRise : ℕ → List Token → ℕ → Type 0
SpansRise at [] end = at ≤ end
SpansRise at (t ∷ ts) end = (at ≤ t.start) × (t.start < t.end) × SpansRise t.end ts end

-- an identifier's number is one of so many
abbrev pub IsNumbered : ℕ → Kind → Type 0
IsNumbered count (Word w) = Unit {0}
IsNumbered count (Id n) = n < count
IsNumbered count (Num n) = Unit {0}
IsNumbered count (Mark m) = Unit {0}

-- a number is not negative
abbrev pub IsNotNegative : Kind → Type 0
IsNotNegative (Word w) = Unit {0}
IsNotNegative (Id n) = Unit {0}
IsNotNegative (Num n) = pos 0 ≤ℤ n
IsNotNegative (Mark m) = Unit {0}

-- each name differs from those after it
abbrev pub NamesDiffer : List (List ℕ) → Type 0
NamesDiffer [] = Unit {0}
NamesDiffer (name ∷ names) = AllByRecursion (λ other. name ≢ other) names × NamesDiffer names

-- the lines of the tokens never fall, from the first of these lines to the last
abbrev pub LinesRise : ℕ → List Token → ℕ → Type 0
LinesRise line [] last = line ≤ last
LinesRise line (t ∷ ts) last = (line ≤ t.line.0) × LinesRise t.line.0 ts last

-- What every value of the type keeps: it is that of some bytes. All that stands below the source follows from it.
pub record IsLexed (l : Lexed) : Type 0 where
  pub bytes : List ℕ
  pub range : (i : ℕ) → slice_index bytes i < 2 ^ 8
  pub source : LexesTo bytes l
  pub few : length l.tokens ≤ token_limit
  pub numbered : AllByRecursion (λ t. IsNumbered (length l.names) t.kind) l.tokens
  pub numbers : AllByRecursion (λ t. IsNotNegative t.kind) l.tokens
  pub differ : NamesDiffer l.names
  pub lines : LinesRise 1 l.tokens l.last.0
  pub spans : SpansRise 0 l.tokens (length bytes)
