-- The line of an instruction. A tool of proof.
use Rattle.std.specs.Prelude.{◌≡◌, ℕ, List, [], ◌∷◌, ◌++◌}
use Rattle.std.specs.Fmt.{decimal}
use Rattle.tac_ir.specs.declared.code.Instr.{Instr}
use Rattle.line_format.specs.Lines.{line}
use Rattle.text_law.specs.ModuleText.{instr_words}
use Rattle.text_law.specs.IsModule.{Is32Bits, IsInstr}

-- the text is longer by the line of this instruction, which begins with its number in the source, and each number is of 32 bits
abbrev pub Adds : ℕ → Instr → List ℕ → List ℕ → Type 0
Adds at instr old new = (new ≡ old ++ line (decimal at ∷ instr_words instr) []) × (Is32Bits at × IsInstr instr)
