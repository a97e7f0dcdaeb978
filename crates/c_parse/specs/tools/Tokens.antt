-- The parser looks at the next token alone, and takes it where it has the value that is wanted.
use Rattle.std.specs.Prelude.{ℤ, Bool, true, false, if◌then◌else◌, List, [], ◌∷◌, Option, Some, None}
use Rattle.dfi_base.specs.declared.numbers.Line.{Line}
use Rattle.c_lex.specs.declared.token.Word.{Word}
use Rattle.c_lex.specs.declared.token.Mark.{Mark}
use Rattle.c_lex.specs.declared.token.Kind.{Kind}
use Rattle.c_lex.specs.Marks.{same_mark}
use Rattle.c_lex.specs.Words.{same_word}
use Rattle.c_ast.specs.declared.ident.Ident.{Ident}
use Rattle.parse_law.specs.tools.Parsing.{Parser, ◌>>◌, unexpected, refuse, skip, pure}
use Rattle.c_parse.specs.Symbol.{Symbol}

abbrev pub P : Type 0 → Type 0
P A = Parser Symbol A

abbrev pub next : {T : Type 0} → List T → Option T
next [] = None
next (t ∷ ts) = Some t

abbrev pub kind_of : Option Symbol → Option Kind
kind_of None = None
kind_of (Some t) = Some t.kind

-- alternatives by what the next token is
abbrev pub choose : {A K : Type 0} → (Option Kind → K) → (K → P A) → P A
choose sort by ts = by (sort (kind_of (next ts))) ts

abbrev pub goes : (Option Kind → Bool) → Symbol → Bool
goes sort t = sort (Some t.kind)

-- ---- a token that is wanted

abbrev pub value_of : {T A : Type 0} → (T → Option A) → Option T → Option A
value_of value None = None
value_of value (Some t) = value t

abbrev pub want_by : {T A : Type 0} → Option A → Parser T A
want_by None = refuse unexpected
want_by (Some a) = skip >> pure a

-- past the next token, which must have a value
unfoldable pub want : {T A : Type 0} → (T → Option A) → Parser T A
want value ts = want_by (value_of value (next ts)) ts

abbrev pub is_mark : Mark → Option Kind → Bool
is_mark m (Some (Kind.Mark k)) = same_mark k m
is_mark m _ = false

abbrev pub is_word : Word → Option Kind → Bool
is_word w (Some (Kind.Word k)) = same_word k w
is_word w _ = false

abbrev pub when : {A : Type 0} → Bool → A → Option A
when b a = if b then Some a else None

abbrev pub mark_at : Mark → Symbol → Option Line
mark_at m t = when (is_mark m (Some t.kind)) t.line

abbrev pub word_at : Word → Symbol → Option Line
word_at w t = when (is_word w (Some t.kind)) t.line

abbrev pub ident_in : Kind → Line → Option Ident
ident_in (Kind.Id n) line = Some (record { line = line; name = n })
ident_in _ line = None

abbrev pub ident_at : Symbol → Option Ident
ident_at t = ident_in t.kind t.line

abbrev pub is_ident : Option Kind → Bool
is_ident (Some (Kind.Id n)) = true
is_ident _ = false

abbrev pub number_in : Kind → Option ℤ
number_in (Kind.Num n) = Some n
number_in _ = None

abbrev pub number_at : Symbol → Option ℤ
number_at t = number_in t.kind

-- ---- the line of the next token

abbrev pub line_next : Option Symbol → Option Line
line_next None = None
line_next (Some t) = Some t.line

abbrev pub located_by : {A : Type 0} → (Line → P A) → Option Line → P A
located_by f None = refuse unexpected
located_by f (Some l) = f l

abbrev pub located : {A : Type 0} → (Line → P A) → P A
located f ts = located_by f (line_next (next ts)) ts
