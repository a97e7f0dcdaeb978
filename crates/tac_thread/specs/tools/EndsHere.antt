-- Instructions before which a thread ends.
use Rattle.std.specs.Prelude.{Bool, true, false, None}
use Rattle.tac_ir.specs.declared.code.Instr.{Instr}

-- main's return, and the end of a branch
abbrev pub ends_here : Instr → Bool
ends_here (Instr.Ret x None) = true
ends_here Instr.End = true
ends_here i = false
