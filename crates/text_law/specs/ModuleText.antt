-- The text of a module, line by line. What follows stands behind each piece.
use Rattle.std.specs.Prelude.{ℕ, Bool, true, false, List, [], ◌∷◌, ◌++◌, length, map, codes, Option, Some, None}
use Rattle.std.specs.Fmt.{decimal, signed_decimal}
use Rattle.tac_ir.specs.declared.code.Code.{Code}
use Rattle.tac_ir.specs.declared.code.Shape.{Shape}
use Rattle.tac_ir.specs.declared.code.Global.{Global}
use Rattle.tac_ir.specs.declared.code.Site.{Site}
use Rattle.tac_ir.specs.declared.code.Fun.{Fun}
use Rattle.tac_ir.specs.declared.code.Lined.{Lined}
use Rattle.tac_ir.specs.declared.code.Place.{Place}
use Rattle.tac_ir.specs.declared.code.UnOp.{UnOp}
use Rattle.tac_ir.specs.declared.code.BinOp.{BinOp}
use Rattle.tac_ir.specs.declared.code.Instr.{Instr}
use Rattle.tac_ir.specs.declared.module.Size.{Size}
use Rattle.tac_ir.specs.declared.module.Key.{Key}
use Rattle.tac_ir.specs.declared.module.PointsRow.{PointsRow}
use Rattle.tac_ir.specs.declared.module.ReachRow.{ReachRow}
use Rattle.tac_ir.specs.Module.{Module}
use Rattle.line_format.specs.Lines.{line, lines}

abbrev pub Words : Type 0
Words = List (List ℕ)

-- ---- an instruction

abbrev pub temp : ℕ → List ℕ
temp t = codes "t" ++ decimal t

abbrev pub fields : List ℕ → List ℕ
fields [] = []
fields (k ∷ path) = codes "." ++ (decimal k ++ fields path)

abbrev pub place : Place → List ℕ
place (Place.Global var path) = codes "g" ++ (decimal var ++ fields path)
place (Place.Local var path) = codes "l" ++ (decimal var ++ fields path)

abbrev pub un_word : UnOp → List ℕ
un_word UnOp.Neg = codes "neg"
un_word UnOp.Not = codes "not"
un_word UnOp.Com = codes "com"

abbrev pub bin_word : BinOp → List ℕ
bin_word BinOp.Add = codes "add"
bin_word BinOp.Sub = codes "sub"
bin_word BinOp.Mul = codes "mul"
bin_word BinOp.And = codes "and"
bin_word BinOp.Or = codes "or"
bin_word BinOp.Xor = codes "xor"
bin_word BinOp.Shl = codes "shl"
bin_word BinOp.Shr = codes "shr"
bin_word BinOp.Lt = codes "lt"
bin_word BinOp.Gt = codes "gt"
bin_word BinOp.Le = codes "le"
bin_word BinOp.Ge = codes "ge"
bin_word BinOp.Eq = codes "eq"
bin_word BinOp.Ne = codes "ne"
bin_word BinOp.Quo = codes "quo"
bin_word BinOp.Rem = codes "rem"

-- a quotient and a remainder have a word of their own
abbrev pub is_div : BinOp → Bool
is_div BinOp.Quo = true
is_div BinOp.Rem = true
is_div op = false

abbrev pub bin_name : BinOp → List ℕ
bin_name op = elim (is_div op) [ true ↦ codes "div" | false ↦ codes "bin" ]

abbrev pub equality : Bool → List ℕ
equality ne = elim ne [ true ↦ codes "ne" | false ↦ codes "eq" ]

abbrev pub read_words : Option ℕ → Words
read_words None = []
read_words (Some read) = decimal read ∷ []

abbrev pub instr_words : Instr → Words
instr_words (Instr.Const to k) = codes "const" ∷ temp to ∷ signed_decimal k ∷ []
instr_words (Instr.Null to) = codes "null" ∷ temp to ∷ []
instr_words (Instr.Un to op a) = codes "un" ∷ temp to ∷ un_word op ∷ temp a ∷ []
instr_words (Instr.Bin to op a b) = bin_name op ∷ temp to ∷ bin_word op ∷ temp a ∷ temp b ∷ []
instr_words (Instr.Addr to p) = codes "addr" ∷ temp to ∷ place p ∷ []
instr_words (Instr.Field to a shape k) = codes "field" ∷ temp to ∷ temp a ∷ decimal shape ∷ decimal k ∷ []
instr_words (Instr.Decay to a shape) = codes "decay" ∷ temp to ∷ temp a ∷ decimal shape ∷ []
instr_words (Instr.Index to a b words) = codes "index" ∷ temp to ∷ temp a ∷ temp b ∷ decimal words ∷ []
instr_words (Instr.Get to p read) = codes "get" ∷ temp to ∷ place p ∷ decimal read ∷ []
instr_words (Instr.Load to a read) = codes "load" ∷ temp to ∷ temp a ∷ decimal read ∷ []
instr_words (Instr.Set p a def) = codes "set" ∷ place p ∷ temp a ∷ decimal def ∷ []
instr_words (Instr.Store a b def) = codes "store" ∷ temp a ∷ temp b ∷ decimal def ∷ []
instr_words (Instr.Same to ne a b) = codes "same" ∷ temp to ∷ equality ne ∷ temp a ∷ temp b ∷ []
instr_words (Instr.New to a site) = codes "new" ∷ temp to ∷ temp a ∷ decimal site ∷ []
instr_words (Instr.Free a) = codes "free" ∷ temp a ∷ []
instr_words (Instr.In to) = codes "in" ∷ temp to ∷ []
instr_words (Instr.Left to) = codes "left" ∷ temp to ∷ []
instr_words (Instr.Out a) = codes "out" ∷ temp a ∷ []
instr_words (Instr.Call to fun def args) = codes "call" ∷ temp to ∷ decimal fun ∷ decimal def ∷ map temp args
instr_words (Instr.Ret a read) = codes "ret" ∷ temp a ∷ read_words read
instr_words (Instr.Jump target) = codes "jump" ∷ decimal target ∷ []
instr_words (Instr.Test a if_so if_not) = codes "test" ∷ temp a ∷ decimal if_so ∷ decimal if_not ∷ []
instr_words Instr.Turn = codes "turn" ∷ []
instr_words (Instr.Fork join entries) = codes "fork" ∷ decimal join ∷ map decimal entries
instr_words Instr.End = codes "end" ∷ []

abbrev pub lined_words : Lined → Words
lined_words i = decimal i.line ∷ instr_words i.instr

-- ---- the code

abbrev pub shape_words : Shape → Words
shape_words Shape.Int = codes "int" ∷ []
shape_words Shape.Ptr = codes "ptr" ∷ []
shape_words (Shape.Array len item) = codes "array" ∷ decimal len ∷ decimal item ∷ []
shape_words (Shape.Struct parts) = codes "struct" ∷ map decimal parts

abbrev pub global_words : Global → Words
global_words g = decimal g.shape ∷ signed_decimal g.start ∷ decimal g.line ∷ []

abbrev pub site_words : Site → Words
site_words s = decimal s.shape ∷ decimal s.line ∷ []

abbrev pub var_words : ℕ → Words
var_words shape = codes "var" ∷ decimal shape ∷ []

-- how many parameters, variables and instructions it has, its line, and then they
abbrev pub fun_text : Fun → List ℕ → List ℕ
fun_text f rest =
    line (codes "function" ∷ decimal f.params ∷ decimal (length f.vars) ∷ decimal (length f.code) ∷ decimal f.line ∷ [])
    (lines var_words f.vars (lines lined_words f.code rest))

abbrev pub funs_text : List Fun → List ℕ → List ℕ
funs_text [] rest = rest
funs_text (f ∷ funs) rest = fun_text f (funs_text funs rest)

-- ---- the tables

abbrev pub class_words : ℕ → Words
class_words class = codes "class" ∷ decimal class ∷ []

abbrev pub check_word : Bool → List ℕ
check_word removed = elim removed [ true ↦ codes "removed" | false ↦ codes "checked" ]

abbrev pub set_words : Bool × List ℕ → Words
set_words r = check_word r.0 ∷ map decimal r.1

-- each mark with its set
abbrev pub beside : List Bool → List (List ℕ) → List (Bool × List ℕ)
beside [] sets = []
beside (m ∷ marks) [] = []
beside (m ∷ marks) (s ∷ sets) = (m, s) ∷ beside marks sets

abbrev pub key_words : Key → Words → Words
key_words (Key.Temp fun t) rest = codes "temp" ∷ decimal fun ∷ decimal t ∷ rest
key_words (Key.Node n) rest = codes "node" ∷ decimal n ∷ rest

abbrev pub points_words : PointsRow → Words
points_words r = key_words r.key (map decimal r.nodes)

abbrev pub reach_words : ReachRow → Words
reach_words r = codes "at" ∷ decimal r.point.fun ∷ decimal r.point.at ∷ map decimal r.facts

-- ---- the whole

abbrev pub version : Size → List ℕ
version Size.Small = codes "2"
version Size.Large = codes "3"

-- how many there are
abbrev pub count : {A : Type 0} → List ℕ → List A → List ℕ → List ℕ
count name xs = line (name ∷ decimal (length xs) ∷ [])

abbrev pub section : {A : Type 0} → List ℕ → (A → Words) → List A → List ℕ → List ℕ
section name words xs rest = count name xs (lines words xs rest)

abbrev pub code_text : Code → List ℕ → List ℕ
code_text c rest =
    section (codes "shapes") shape_words c.shapes (section (codes "globals") global_words c.globals (section (codes "sites") site_words c.sites
    (count (codes "functions") c.funs (line (codes "main" ∷ decimal c.main ∷ []) (funs_text c.funs rest)))))

abbrev pub text_then : Module → List ℕ → List ℕ
text_then m rest =
    line (codes "dfimod" ∷ version m.size ∷ []) (code_text m.code (section (codes "definitions") class_words m.classes
    (section (codes "reads") set_words (beside m.removed m.sets) (section (codes "points") points_words m.points (section (codes "reach") reach_words m.reach
    (line (codes "end" ∷ []) rest))))))

abbrev pub module_text : Module → List ℕ
module_text m = text_then m []
