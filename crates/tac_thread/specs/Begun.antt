-- How a life begins.
use Rattle.std.specs.Prelude.{ℕ, ◌-◌, [], Some, None, slice_get}
use Rattle.tac_ir.specs.declared.code.Code.{Code}
use Rattle.tac_ir.specs.declared.code.Instr.{Instr}
use Rattle.tac_thread.specs.declared.guest.Stage.{Stage}
use Rattle.tac_thread.specs.Meaning.{Meaning}
use Rattle.tac_thread.specs.Life.{Life, instr_of}
use Rattle.tac_thread.specs.Answered.{temps_from}

-- at this index of a function, with all temporaries at 0
abbrev pub begun : {V S : Type 0} → Meaning V S → Code → ℕ → ℕ → S → Life V S
begun m c f at stack = record { top = record { fun = f; at = at; temps = temps_from m c f []; stack = stack }; callers = []; stage = Stage.Ready }

-- thread 1 begins at the entry of main
abbrev pub root_of : {V S : Type 0} → Meaning V S → Code → S → Life V S
root_of m c stack = begun m c c.main 0 stack

-- where branch i of a fork begins, from 1
abbrev pub entry_of : Instr → ℕ → ℕ
entry_of (Instr.Fork join entries) i = elim (slice_get entries (i - 1)) [ None ↦ 0 | Some e ↦ e ]
entry_of other i = 0

-- branch i begins in the function that forked
abbrev pub branch_of : {V S : Type 0} → Meaning V S → Code → Life V S → ℕ → S → Life V S
branch_of m c l i stack = begun m c l.top.fun (entry_of (instr_of c l.top) i) stack
