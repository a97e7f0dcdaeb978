-- The instruction at an index, as it is looked up.
use Rattle.std.specs.Prelude.{ℕ, ◌<◌, IsTrue, Option, Some, None, List, slice_get}
use Rattle.tac_ir.specs.declared.code.Code.{Code}
use Rattle.tac_ir.specs.declared.code.Instr.{Instr}
use Rattle.tac_ir.specs.declared.code.Lined.{Lined}
use Rattle.tac_ir.specs.GoodForm.{NamesExist}
use Rattle.tac_thread.specs.tools.Numbered.{is_numbered}

-- the instruction at an index; where there is none, `End`
abbrev pub instr_in : List Lined → ℕ → Instr
instr_in code at = elim (slice_get code at) [ None ↦ Instr.End | Some l ↦ l.instr ]

-- the instruction that was found, or `End`
abbrev pub found_or_end : Option Instr → Instr
found_or_end None = Instr.End
found_or_end (Some i) = i

-- what code of a good form says of an instruction of function f at an index
pub record IsUsable (c : Code) (f at : ℕ) (i : Instr) : Type 0 where
  pub names : NamesExist c f i
  pub numbers : IsTrue (is_numbered i)
  pub within : at < 16384
