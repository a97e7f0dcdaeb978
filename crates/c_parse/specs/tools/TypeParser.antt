-- Types and declarators, read from the left.
use Rattle.std.specs.Prelude.{ℕ, suc, ℤ, Bool, true, false, List, [], ◌∷◌, Option, Some, None}
use Rattle.dfi_base.specs.declared.numbers.Line.{Line}
use Rattle.c_lex.specs.declared.token.Word.{Word}
use Rattle.c_lex.specs.declared.token.Mark.{Mark}
use Rattle.c_ast.specs.declared.decl.Base.{Base}
use Rattle.c_ast.specs.declared.decl.TypeName.{TypeName}
use Rattle.c_ast.specs.declared.decl.Declarator.{Declarator}
use Rattle.c_ast.specs.declared.decl.Brackets.{Brackets}
use Rattle.c_ast.specs.declared.decl.ProtoParam.{ProtoParam}
use Rattle.c_ast.specs.declared.decl.ProtoParams.{ProtoParams}
use Rattle.c_ast.specs.declared.ident.Ident.{Ident}
use Rattle.parse_law.specs.tools.Parsing.{◌>>=◌, ◌>>◌, pure, refuse, unexpected, repeat, many}
use Rattle.c_parse.specs.Symbol.{Symbol}
use Rattle.c_parse.specs.tools.Sorts.{base_word, list_start}
use Rattle.c_parse.specs.declared.sorts.BaseWord.{BaseWord}
use Rattle.c_parse.specs.declared.sorts.ListStart.{ListStart}
use Rattle.c_parse.specs.tools.Tokens.{P, choose, located, want, is_mark, is_ident, goes, mark_at, word_at, ident_at, number_at}

-- does this mark stand there?
abbrev pub has : Mark → Symbol → Bool
has m = goes (is_mark m)

abbrev pub base_by : BaseWord → P Base
base_by BaseWord.Int = do l ← want (word_at Word.Int); pure (Base.Int l)
base_by BaseWord.Struct = do l ← want (word_at Word.Struct); i ← want ident_at; pure (Base.Struct l i)
base_by BaseWord.Other = refuse unexpected

unfoldable pub base : P Base
base = choose base_word base_by

abbrev pub star : ℕ → P ℕ
star n = want (mark_at Mark.Star) >> pure (suc n)

unfoldable pub stars : P ℕ
stars = repeat (has Mark.Star) star 0

unfoldable pub bracketed : P ℤ
bracketed = do want (mark_at Mark.OpenBracket); k ← want number_at; want (mark_at Mark.CloseBracket); pure k

-- behind those that were found
abbrev pub more_lengths : List ℤ → P (List ℤ)
more_lengths found = many (has Mark.OpenBracket) bracketed found

unfoldable pub type_name : P TypeName
type_name = do b ← base; n ← stars; pure (record { base = b; stars = n })

-- behind the name
unfoldable pub declared : Line → ℕ → Ident → P Declarator
declared l n i = do ks ← more_lengths []; pure (record { line = l; stars = n; name = i; lengths = ks })

unfoldable pub declarator_from : Line → P Declarator
declarator_from l = do n ← stars; i ← want ident_at; declared l n i

unfoldable pub declarator : P Declarator
declarator = located declarator_from

-- behind `[`
abbrev pub bracket_by : Bool → P Brackets
bracket_by true = want (mark_at Mark.CloseBracket) >> pure Brackets.Empty
bracket_by false = do k ← want number_at; want (mark_at Mark.CloseBracket); pure (Brackets.Length k)

abbrev pub brackets_by : Bool → P Brackets
brackets_by true = want (mark_at Mark.OpenBracket) >> choose (is_mark Mark.CloseBracket) bracket_by
brackets_by false = pure Brackets.Absent

unfoldable pub brackets : P Brackets
brackets = choose (is_mark Mark.OpenBracket) brackets_by

abbrev pub name_by : Bool → P (Option Ident)
name_by true = do i ← want ident_at; pure (Some i)
name_by false = pure None

unfoldable pub name : P (Option Ident)
name = choose is_ident name_by

unfoldable pub param : P ProtoParam
param = do b ← base; n ← stars; i ← name; s ← brackets; pure (record { base = b; stars = n; name = i; brackets = s })

-- a comma, and the next
abbrev pub after_comma : {A : Type 0} → P A → P A
after_comma p = want (mark_at Mark.Comma) >> p

-- behind those that were found
abbrev pub more_params : List ProtoParam → P (List ProtoParam)
more_params found = many (has Mark.Comma) (after_comma param) found

unfoldable pub params : P (List ProtoParam)
params = do p ← param; more_params (p ∷ [])

abbrev pub list_by : ListStart → P ProtoParams
list_by ListStart.Empty = pure ProtoParams.Empty
list_by ListStart.Void = do l ← want (word_at Word.Void); pure (ProtoParams.Void l)
list_by ListStart.List = do ps ← params; pure (ProtoParams.List ps)

unfoldable pub parameter_list : P ProtoParams
parameter_list = choose list_start list_by
