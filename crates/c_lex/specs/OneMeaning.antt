-- Each source has one meaning.
use Rattle.std.specs.Prelude.{◌≡◌, ℕ, List, Result}
use Rattle.c_lex.specs.declared.fault.LexFault.{LexFault}
use Rattle.c_lex.specs.FirstFault.{Means}
use Rattle.c_lex.specs.IsLexed.{Lexed}

-- bytes have no two readings, no two first faults, and no fault beside tokens
abbrev pub OneMeaning : List ℕ → Type 0
OneMeaning bytes = (a b : Result Lexed LexFault) → Means bytes a → Means bytes b → a ≡ b

-- bytes have tokens or a first fault
abbrev pub SomeMeaning : List ℕ → Type 0
SomeMeaning bytes = (a : Result Lexed LexFault) × Means bytes a
