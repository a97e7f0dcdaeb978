-- The formats of instructions. A tool of proof.
use Rattle.std.specs.Prelude.{ℕ, Bool, true, false, List, [], codes, Option}
use Rattle.tac_ir.specs.declared.code.Place.{Place}
use Rattle.tac_ir.specs.declared.code.Lined.{Lined}
use Rattle.tac_ir.specs.declared.code.BinOp.{BinOp}
use Rattle.tac_ir.specs.declared.code.Instr.{Instr}
use Rattle.line_format.specs.Lines.{greatest}
use Rattle.line_format.specs.tools.Format.{Format, give, chain}
use Rattle.line_format.specs.tools.Number.{number_and}
use Rattle.line_format.specs.tools.Signed.{signed_and}
use Rattle.line_format.specs.tools.Words.{Table, word, one_of}
use Rattle.line_format.specs.tools.Members.{number_and_members, number_and_option}
use Rattle.text_law.specs.declared.opcode.Opcode.{Opcode}
use Rattle.text_law.specs.tools.Opcodes.{opcodes, un_words, bin_words, div_words, equalities, place_words}

-- a number, and the byte behind it
abbrev pub number : ℕ → Format ℕ
number c = number_and c 0 greatest

abbrev pub temp : ℕ → Format ℕ
temp c = chain (word (codes "t")) (λ u. number c)

-- one behind the other
abbrev pub pair : {A B : Type 0} → Format A → Format B → Format (A × B)
pair f g = chain f (λ a. chain g (λ b. give (a, b)))

abbrev pub place_of : Bool → ℕ × List ℕ → Place
place_of global p = elim global [ true ↦ Place.Global p.0 p.1 | false ↦ Place.Local p.0 p.1 ]

abbrev pub place : ℕ → Format Place
place c = chain (one_of place_words) (λ global. chain (number_and_members [] 46 c false) (λ p. give (place_of global p)))

abbrev pub bin : Table BinOp → Format Instr
bin table = chain (pair (temp 32) (pair (one_of table) (pair (temp 32) (temp 10)))) (λ p. give (Instr.Bin p.0 p.1.0 p.1.1.0 p.1.1.1))

abbrev pub letter : Format (Unit {0})
letter = word (codes "t")

-- a number and the temporaries behind it, a number and the numbers behind it, a number and one more or none
abbrev pub args : Format (ℕ × List ℕ)
args = number_and_members (codes "t") 32 10 false

abbrev pub fork : Format (ℕ × List ℕ)
fork = number_and_members [] 32 10 false

abbrev pub option : Format (ℕ × Option ℕ)
option = number_and_option 32 10

-- what comes behind the word of an instruction
abbrev pub body : Opcode → Format Instr
body Opcode.Const = chain (pair (temp 32) (signed_and 10)) (λ p. give (Instr.Const p.0 p.1))
body Opcode.Null = chain (temp 10) (λ to. give (Instr.Null to))
body Opcode.Un = chain (pair (temp 32) (pair (one_of un_words) (temp 10))) (λ p. give (Instr.Un p.0 p.1.0 p.1.1))
body Opcode.Bin = bin bin_words
body Opcode.Div = bin div_words
body Opcode.Addr = chain (pair (temp 32) (place 10)) (λ p. give (Instr.Addr p.0 p.1))
body Opcode.Field = chain (pair (temp 32) (pair (temp 32) (pair (number 32) (number 10)))) (λ p. give (Instr.Field p.0 p.1.0 p.1.1.0 p.1.1.1))
body Opcode.Decay = chain (pair (temp 32) (pair (temp 32) (number 10))) (λ p. give (Instr.Decay p.0 p.1.0 p.1.1))
body Opcode.Index = chain (pair (temp 32) (pair (temp 32) (pair (temp 32) (number 10)))) (λ p. give (Instr.Index p.0 p.1.0 p.1.1.0 p.1.1.1))
body Opcode.Get = chain (pair (temp 32) (pair (place 32) (number 10))) (λ p. give (Instr.Get p.0 p.1.0 p.1.1))
body Opcode.Load = chain (pair (temp 32) (pair (temp 32) (number 10))) (λ p. give (Instr.Load p.0 p.1.0 p.1.1))
body Opcode.Set = chain (pair (place 32) (pair (temp 32) (number 10))) (λ p. give (Instr.Set p.0 p.1.0 p.1.1))
body Opcode.Store = chain (pair (temp 32) (pair (temp 32) (number 10))) (λ p. give (Instr.Store p.0 p.1.0 p.1.1))
body Opcode.Same = chain (pair (temp 32) (pair (one_of equalities) (pair (temp 32) (temp 10)))) (λ p. give (Instr.Same p.0 p.1.0 p.1.1.0 p.1.1.1))
body Opcode.New = chain (pair (temp 32) (pair (temp 32) (number 10))) (λ p. give (Instr.New p.0 p.1.0 p.1.1))
body Opcode.Free = chain (temp 10) (λ a. give (Instr.Free a))
body Opcode.In = chain (temp 10) (λ to. give (Instr.In to))
body Opcode.Left = chain (temp 10) (λ to. give (Instr.Left to))
body Opcode.Out = chain (temp 10) (λ a. give (Instr.Out a))
body Opcode.Call = chain (pair (temp 32) (pair (number 32) args)) (λ p. give (Instr.Call p.0 p.1.0 p.1.1.0 p.1.1.1))
body Opcode.Ret = chain (chain letter (λ u. option)) (λ p. give (Instr.Ret p.0 p.1))
body Opcode.Jump = chain (number 10) (λ target. give (Instr.Jump target))
body Opcode.Test = chain (pair (temp 32) (pair (number 32) (number 10))) (λ p. give (Instr.Test p.0 p.1.0 p.1.1))
body Opcode.Turn = give Instr.Turn
body Opcode.Fork = chain fork (λ p. give (Instr.Fork p.0 p.1))
body Opcode.End = give Instr.End

abbrev pub instr : Format Instr
instr = chain (one_of opcodes) body

abbrev pub lined : Format Lined
lined = chain (pair (number 32) instr) (λ p. give (record { line = p.0; instr = p.1 }))
