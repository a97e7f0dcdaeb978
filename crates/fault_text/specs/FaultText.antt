-- The line that tells the first fault of a source.
use Rattle.std.specs.Prelude.{ℕ, List, [], ◌∷◌, ◌++◌, codes}
use Rattle.std.specs.Fmt.{decimal}
use Rattle.c_lex.specs.Bytes.{line_at}
use Rattle.c_lex.specs.declared.fault.LexFault.{LexFault}
use Rattle.c_parse.specs.declared.fault.ParseFault.{ParseFault}
use Rattle.c_typed.specs.declared.fault.BigWhat.{BigWhat}
use Rattle.c_typed.specs.declared.fault.TypeFault.{TypeFault}
use Rattle.tac_lower.specs.declared.fault.LowerFault.{LowerFault}
use Rattle.tac_lower.specs.declared.fault.LowerWhat.{LowerWhat}
use Rattle.dfi_build.specs.declared.fault.BuildFault.{BuildFault}

abbrev pub told_at : ℕ → List ℕ → List ℕ
told_at line words = codes "line " ++ decimal line ++ codes ": " ++ words ++ 10 ∷ []

-- a fault in the text is at a byte, and is told at its line
abbrev pub lex_text : List ℕ → LexFault → List ℕ
lex_text bytes (LexFault.BadByte at) = told_at (line_at bytes at) (codes "bad byte")
lex_text bytes (LexFault.BadNumber at) = told_at (line_at bytes at) (codes "bad number")
lex_text bytes (LexFault.BigNumber at) = told_at (line_at bytes at) (codes "big number")
lex_text bytes (LexFault.OpenComment at) = told_at (line_at bytes at) (codes "open comment")
lex_text bytes (LexFault.TooMany at) = told_at (line_at bytes at) (codes "too many tokens")
lex_text bytes LexFault.Memory = []

abbrev pub parse_text : ParseFault → List ℕ
parse_text (ParseFault.Unexpected token line) = told_at line.0 (codes "unexpected token")
parse_text (ParseFault.Deep line) = told_at line.0 (codes "nested too deep")
parse_text ParseFault.Memory = []

abbrev pub big_type : BigWhat → List ℕ
big_type BigWhat.Functions = codes "too big: functions"
big_type BigWhat.Shape = codes "too big: type"
big_type BigWhat.Globals = codes "too big: globals"
big_type BigWhat.Frame = codes "too big: frame"

abbrev pub type_text : TypeFault → List ℕ
type_text (TypeFault.Unknown line) = told_at line.0 (codes "unknown name")
type_text (TypeFault.Twice line) = told_at line.0 (codes "name twice")
type_text (TypeFault.Mismatch line) = told_at line.0 (codes "types differ")
type_text (TypeFault.NotLvalue line) = told_at line.0 (codes "no lvalue")
type_text (TypeFault.Escape line) = told_at line.0 (codes "leaves its branch")
type_text (TypeFault.Branches line) = told_at line.0 (codes "branches")
type_text (TypeFault.Big what line) = told_at line.0 (big_type what)
type_text (TypeFault.NoMain line) = told_at line.0 (codes "no main")
type_text TypeFault.Memory = []

abbrev pub big_code : LowerWhat → List ℕ
big_code LowerWhat.Points = codes "too big: points"
big_code LowerWhat.Defs = codes "too big: definitions"
big_code LowerWhat.Nodes = codes "too big: nodes"

abbrev pub lower_text : LowerFault → List ℕ
lower_text (LowerFault.Big what line) = told_at line.0 (big_code what)
lower_text LowerFault.Memory = []

-- the text of a fault of these bytes
abbrev pub text_of : List ℕ → BuildFault → List ℕ
text_of bytes (BuildFault.Lex fault) = lex_text bytes fault
text_of bytes (BuildFault.Parse fault) = parse_text fault
text_of bytes (BuildFault.Types fault) = type_text fault
text_of bytes (BuildFault.Lower fault) = lower_text fault
text_of bytes BuildFault.Memory = []
