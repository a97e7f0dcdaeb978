-- How many silent instructions a thread can still do before its next event. This is a measure for proofs.
use Rattle.std.specs.Prelude.{ℕ, ◌-◌, Bool, true, false, List, length}
use Rattle.tac_ir.specs.declared.code.Code.{Code}
use Rattle.tac_ir.specs.declared.code.Instr.{Instr}
use Rattle.tac_ir.specs.declared.code.Lined.{Lined}
use Rattle.tac_ir.specs.Layout.{lines_of}
use Rattle.tac_thread.specs.tools.Fetched.{instr_in}
use Rattle.tac_thread.specs.Life.{Life}

-- instructions that mostly go on by themselves
abbrev pub is_silent : Instr → Bool
is_silent (Instr.Const to k) = true
is_silent (Instr.Null to) = true
is_silent (Instr.Un to op a) = true
is_silent (Instr.Bin to op a b) = true
is_silent (Instr.Addr to place) = true
is_silent (Instr.Field to a shape k) = true
is_silent (Instr.Decay to a shape) = true
is_silent (Instr.Index to a b words) = true
is_silent (Instr.Jump target) = true
is_silent (Instr.Test a yes_at no_at) = true
is_silent i = false

-- at such an instruction all that stand from here on, else none
abbrev pub left_from : Bool → List Lined → ℕ → ℕ
left_from true code at = length code - at
left_from false code at = 0

abbrev pub left_in : List Lined → ℕ → ℕ
left_in code at = left_from (is_silent (instr_in code at)) code at

abbrev pub left_of : {V S : Type 0} → Code → Life V S → ℕ
left_of c l = left_in (lines_of c l.top.fun) l.top.at
