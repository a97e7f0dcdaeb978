-- Whole programs, read from the left.
use Rattle.std.specs.Prelude.{ℕ, Bool, true, false, is_some, List, [], ◌∷◌, Option, Some, None}
use Rattle.std.specs.Option.{option_map}
use Rattle.dfi_base.specs.declared.numbers.Line.{Line}
use Rattle.c_lex.specs.declared.token.Word.{Word}
use Rattle.c_lex.specs.declared.token.Mark.{Mark}
use Rattle.c_lex.specs.declared.token.Kind.{Kind}
use Rattle.c_ast.specs.declared.ident.Ident.{Ident}
use Rattle.c_ast.specs.declared.decl.Base.{Base}
use Rattle.c_ast.specs.declared.decl.ResultType.{ResultType}
use Rattle.c_ast.specs.declared.decl.Declarator.{Declarator}
use Rattle.c_ast.specs.declared.decl.Param.{Param}
use Rattle.c_ast.specs.declared.decl.ProtoParam.{ProtoParam}
use Rattle.c_ast.specs.declared.decl.Params.{Params}
use Rattle.c_ast.specs.declared.decl.ProtoParams.{ProtoParams}
use Rattle.c_ast.specs.declared.stmt.Block.{Block}
use Rattle.c_ast.specs.declared.stmt.Stmt.{Stmt}
use Rattle.c_ast.specs.declared.program.Field.{Field}
use Rattle.c_ast.specs.declared.program.Item.{Item}
use Rattle.parse_law.specs.tools.Parsing.{◌>>=◌, ◌>>◌, pure, refuse, unexpected, many, whole}
use Rattle.c_parse.specs.declared.sorts.ItemStart.{ItemStart}
use Rattle.c_parse.specs.tools.Sorts.{item_start}
use Rattle.c_parse.specs.tools.Tokens.{P, choose, located, want, is_mark, mark_at, word_at, ident_at, goes}
use Rattle.c_parse.specs.tools.TypeParser.{base, stars, declared, declarator, parameter_list, has, after_comma}
use Rattle.c_parse.specs.tools.StmtParser.{is_open, valued, decl_rest, block, stmt}

-- ---- structs

abbrev pub more_declarators : List Declarator → P (List Declarator)
more_declarators found = many (has Mark.Comma) (after_comma declarator) found

unfoldable pub field : P Field
field = do b ← base; d ← declarator; items ← more_declarators (d ∷ []); want (mark_at Mark.Semicolon); pure (record { base = b; items = items })

abbrev pub more_fields : List Field → P (List Field)
more_fields found = many (goes is_open) field found

-- behind the tag
unfoldable pub struct_rest : Line → Ident → P Item
struct_rest l i = do
  want (mark_at Mark.OpenBrace)
  f ← field
  fields ← more_fields (f ∷ [])
  want (mark_at Mark.CloseBrace)
  want (mark_at Mark.Semicolon)
  pure (Item.Struct (record { line = l; tag = i; fields = fields }))

-- ---- functions and prototypes

abbrev pub with_name : ProtoParam → Option Ident → Option Param
with_name p None = None
with_name p (Some i) = Some (record { base = p.base; stars = p.stars; name = i; brackets = p.brackets })

abbrev pub named : ProtoParam → Option Param
named p = with_name p p.name

abbrev pub both : Option Param → Option (List Param) → Option (List Param)
both None others = None
both (Some p) None = None
both (Some p) (Some ps) = Some (p ∷ ps)

-- where each has a name
abbrev pub all_named : List ProtoParam → Option (List Param)
all_named [] = Some []
all_named (p ∷ ps) = both (named p) (all_named ps)

abbrev pub named_params : ProtoParams → Option Params
named_params ProtoParams.Empty = Some Params.Empty
named_params (ProtoParams.Void l) = Some (Params.Void l)
named_params (ProtoParams.List ps) = option_map Params.List (all_named ps)

-- a token comes next
abbrev pub is_more : Option Kind → Bool
is_more k = is_some k

module _ (limit : ℕ) where
  -- a function's body
  unfoldable pub body : P (Block Stmt)
  body = block limit (stmt limit limit) 0

  abbrev pub function_by : ResultType → Ident → Option Params → P Item
  function_by t i None = refuse unexpected
  function_by t i (Some ps) = do b ← body; pure (Item.Function (record { result = t; name = i; params = ps; body = b }))

  abbrev pub signature_by : ResultType → Ident → ProtoParams → Bool → P Item
  signature_by t i ps true = function_by t i (named_params ps)
  signature_by t i ps false = do want (mark_at Mark.Semicolon); pure (Item.Proto (record { result = t; name = i; params = ps }))

  -- behind the closing parenthesis: a function only where each parameter has a name
  unfoldable pub signature_end : ResultType → Ident → ProtoParams → P Item
  signature_end t i ps = choose (is_mark Mark.OpenBrace) (signature_by t i ps)

  -- behind the name
  unfoldable pub signature : ResultType → Ident → P Item
  signature t i = do want (mark_at Mark.OpenParen); ps ← parameter_list; want (mark_at Mark.CloseParen); signature_end t i ps

  abbrev pub global_by : Line → Base → ℕ → Ident → Bool → P Item
  global_by l b n i true = signature (ResultType.Type b n) i
  global_by l b n i false = do d ← declared l n i; j ← valued limit 0 d; x ← decl_rest limit 0 b j; pure (Item.Decl x)

  -- behind the first name
  unfoldable pub global_end : Line → Base → ℕ → Ident → P Item
  global_end l b n i = choose (is_mark Mark.OpenParen) (global_by l b n i)

  unfoldable pub global_from : Base → Line → P Item
  global_from b l = do n ← stars; i ← want ident_at; global_end l b n i

  -- behind the base
  unfoldable pub global : Base → P Item
  global b = located (global_from b)

  abbrev pub tagged_by : Line → Ident → Bool → P Item
  tagged_by l i true = struct_rest l i
  tagged_by l i false = global (Base.Struct l i)

  -- behind the tag
  unfoldable pub tagged : Line → Ident → P Item
  tagged l i = choose (is_mark Mark.OpenBrace) (tagged_by l i)

  abbrev pub item_by : ItemStart → P Item
  item_by ItemStart.Int = do l ← want (word_at Word.Int); global (Base.Int l)
  item_by ItemStart.Struct = do l ← want (word_at Word.Struct); i ← want ident_at; tagged l i
  item_by ItemStart.Void = do l ← want (word_at Word.Void); i ← want ident_at; signature (ResultType.Void l) i
  item_by ItemStart.Other = refuse unexpected

  unfoldable pub item : P Item
  item = choose item_start item_by

  abbrev pub more_items : List Item → P (List Item)
  more_items found = many (goes is_more) item found

  unfoldable pub program : P (List Item)
  program = whole (more_items [])
