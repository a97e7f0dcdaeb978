-- Programs. `ProgramAt may ts items`: ts are the tokens of these items. Each item is counted on its own, from 0: one up at the start of every
-- statement, block and operand, and at each operator, `[`, `.` and `->` behind an operand; back down where the statement, block, operand or
-- whole expression that began lower is over. `may c ts`: the counter may go up from c at the first token of ts.
use Rattle.std.specs.Prelude.{ℕ, List, [], ◌∷◌}
use Rattle.dfi_base.specs.declared.numbers.Line.{Line}
use Rattle.c_lex.specs.declared.token.Word.{Word}
use Rattle.c_lex.specs.declared.token.Mark.{Mark}
use Rattle.c_ast.specs.declared.decl.Base.{Base}
use Rattle.c_ast.specs.declared.decl.ResultType.{ResultType}
use Rattle.c_ast.specs.declared.decl.Declarator.{Declarator}
use Rattle.c_ast.specs.declared.decl.Decl.{Decl}
use Rattle.c_ast.specs.declared.decl.Params.{Params}
use Rattle.c_ast.specs.declared.decl.ProtoParams.{ProtoParams}
use Rattle.c_ast.specs.declared.stmt.Block.{Block}
use Rattle.c_ast.specs.declared.stmt.Stmt.{Stmt}
use Rattle.c_ast.specs.declared.program.Field.{Field}
use Rattle.c_ast.specs.declared.program.Item.{Item}
use Rattle.parse_law.specs.Nesting.{May}
use Rattle.c_parse.specs.Symbol.{Symbol, Symbols, word, mark, name}
use Rattle.c_parse.specs.Types.{BaseAt, ResultAt, DeclaratorAt, ParameterListAt, ProtoListAt}
use Rattle.c_parse.specs.Stmts.{DeclAt, BlockAt}

-- declarator { "," declarator }
pub data DeclaratorsAt : Symbols → List Declarator → Symbols → Type 0 where
  last : {d : Declarator} {ts rest : Symbols} → DeclaratorAt ts d rest → DeclaratorsAt ts (d ∷ []) rest
  more : {l : Line} {d : Declarator} {others : List Declarator} {ts m rest : Symbols}
      → DeclaratorAt ts d (mark Mark.Comma l ∷ m) → DeclaratorsAt m others rest → DeclaratorsAt ts (d ∷ others) rest

-- field = base declarator { "," declarator } ";"
pub data FieldAt : Symbols → Field → Symbols → Type 0 where
  field : {l : Line} {b : Base} {items : List Declarator} {ts m rest : Symbols}
      → BaseAt ts b m → DeclaratorsAt m items (mark Mark.Semicolon l ∷ rest) → FieldAt ts (record { base = b; items = items }) rest

-- field { field }
pub data FieldsAt : Symbols → List Field → Symbols → Type 0 where
  last : {f : Field} {ts rest : Symbols} → FieldAt ts f rest → FieldsAt ts (f ∷ []) rest
  more : {f : Field} {others : List Field} {ts m rest : Symbols} → FieldAt ts f m → FieldsAt m others rest → FieldsAt ts (f ∷ others) rest

module _ (may : May Symbol) where
  pub data ItemAt : Symbols → Item → Symbols → Type 0 where
    -- struct = "struct" ID "{" field { field } "}" ";"
    struct : {l k p q r : Line} {n : ℕ} {fields : List Field} {ts rest : Symbols}
        → FieldsAt ts fields (mark Mark.CloseBrace q ∷ mark Mark.Semicolon r ∷ rest)
        → ItemAt (word Word.Struct l ∷ name n k ∷ mark Mark.OpenBrace p ∷ ts)
        (Item.Struct (record { line = l; tag = record { line = k; name = n }; fields = fields })) rest
    decl : {d : Decl} {ts rest : Symbols} → DeclAt may 0 ts d rest → ItemAt ts (Item.Decl d) rest
    -- function = result ID "(" parameters ")" block
    function : {k p q : Line} {n : ℕ} {t : ResultType} {ps : Params} {b : Block Stmt} {ts m o rest : Symbols}
        → ResultAt ts t (name n k ∷ mark Mark.OpenParen p ∷ m) → ParameterListAt m ps (mark Mark.CloseParen q ∷ o) → BlockAt may 0 o b rest
        → ItemAt ts (Item.Function (record { result = t; name = record { line = k; name = n }; params = ps; body = b })) rest
    -- prototype = result ID "(" prototype parameters ")" ";"
    proto : {k p q r : Line} {n : ℕ} {t : ResultType} {ps : ProtoParams} {ts m rest : Symbols}
        → ResultAt ts t (name n k ∷ mark Mark.OpenParen p ∷ m) → ProtoListAt m ps (mark Mark.CloseParen q ∷ mark Mark.Semicolon r ∷ rest)
        → ItemAt ts (Item.Proto (record { result = t; name = record { line = k; name = n }; params = ps })) rest

  -- program = { struct | declaration | function | prototype }
  pub data ProgramAt : Symbols → List Item → Type 0 where
    none : ProgramAt [] []
    more : {i : Item} {others : List Item} {ts m : Symbols} → ItemAt ts i m → ProgramAt m others → ProgramAt ts (i ∷ others)
