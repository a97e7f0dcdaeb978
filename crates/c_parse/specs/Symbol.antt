-- The tokens of a source as the grammar sees them: what each is, and its line.
use Rattle.std.specs.Prelude.{ℕ, ℤ, List, [], ◌∷◌}
use Rattle.dfi_base.specs.declared.numbers.Line.{Line}
use Rattle.c_lex.specs.declared.token.Word.{Word}
use Rattle.c_lex.specs.declared.token.Mark.{Mark}
use Rattle.c_lex.specs.declared.token.Kind.{Kind}
use Rattle.c_lex.specs.declared.token.Token.{Token}

pub record Symbol : Type 0 where
  pub kind : Kind
  pub line : Line

abbrev pub Symbols : Type 0
Symbols = List Symbol

abbrev pub word : Word → Line → Symbol
word w line = record { kind = Kind.Word w; line = line }

abbrev pub mark : Mark → Line → Symbol
mark m line = record { kind = Kind.Mark m; line = line }

-- the identifier of this number
abbrev pub name : ℕ → Line → Symbol
name n line = record { kind = Kind.Id n; line = line }

abbrev pub number : ℤ → Line → Symbol
number k line = record { kind = Kind.Num k; line = line }

abbrev pub symbols_of : List Token → Symbols
symbols_of [] = []
symbols_of (t ∷ ts) = record { kind = t.kind; line = t.line } ∷ symbols_of ts
