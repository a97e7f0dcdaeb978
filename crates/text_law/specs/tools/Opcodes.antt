-- The words of instructions, each with the byte that ends it. A tool of proof.
use Rattle.std.specs.Prelude.{Bool, true, false, [], ◌∷◌, codes}
use Rattle.tac_ir.specs.declared.code.UnOp.{UnOp}
use Rattle.tac_ir.specs.declared.code.BinOp.{BinOp}
use Rattle.line_format.specs.tools.Words.{Table}
use Rattle.text_law.specs.declared.opcode.Opcode.{Opcode}

abbrev pub opcodes : Table Opcode
opcodes =
    (codes "const ", Opcode.Const) ∷ (codes "null ", Opcode.Null) ∷ (codes "un ", Opcode.Un) ∷ (codes "bin ", Opcode.Bin) ∷ (codes "div ", Opcode.Div)
    ∷ (codes "addr ", Opcode.Addr) ∷ (codes "field ", Opcode.Field) ∷ (codes "decay ", Opcode.Decay) ∷ (codes "index ", Opcode.Index) ∷ (codes "get ", Opcode.Get)
    ∷ (codes "load ", Opcode.Load) ∷ (codes "set ", Opcode.Set) ∷ (codes "store ", Opcode.Store) ∷ (codes "same ", Opcode.Same) ∷ (codes "new ", Opcode.New)
    ∷ (codes "free ", Opcode.Free) ∷ (codes "in ", Opcode.In) ∷ (codes "left ", Opcode.Left) ∷ (codes "out ", Opcode.Out) ∷ (codes "call ", Opcode.Call)
    ∷ (codes "ret ", Opcode.Ret) ∷ (codes "jump ", Opcode.Jump) ∷ (codes "test ", Opcode.Test) ∷ (codes "turn\n", Opcode.Turn) ∷ (codes "fork ", Opcode.Fork)
    ∷ (codes "end\n", Opcode.End) ∷ []

abbrev pub un_words : Table UnOp
un_words = (codes "neg ", UnOp.Neg) ∷ (codes "not ", UnOp.Not) ∷ (codes "com ", UnOp.Com) ∷ []

abbrev pub bin_words : Table BinOp
bin_words =
    (codes "add ", BinOp.Add) ∷ (codes "sub ", BinOp.Sub) ∷ (codes "mul ", BinOp.Mul) ∷ (codes "and ", BinOp.And) ∷ (codes "or ", BinOp.Or) ∷ (codes "xor ", BinOp.Xor)
    ∷ (codes "shl ", BinOp.Shl) ∷ (codes "shr ", BinOp.Shr) ∷ (codes "lt ", BinOp.Lt) ∷ (codes "gt ", BinOp.Gt) ∷ (codes "le ", BinOp.Le) ∷ (codes "ge ", BinOp.Ge)
    ∷ (codes "eq ", BinOp.Eq) ∷ (codes "ne ", BinOp.Ne) ∷ []

abbrev pub div_words : Table BinOp
div_words = (codes "quo ", BinOp.Quo) ∷ (codes "rem ", BinOp.Rem) ∷ []

abbrev pub equalities : Table Bool
equalities = (codes "eq ", false) ∷ (codes "ne ", true) ∷ []

-- whether a place is a global's
abbrev pub place_words : Table Bool
place_words = (codes "g", true) ∷ (codes "l", false) ∷ []
