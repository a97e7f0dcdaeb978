-- One life of a thread, between two events.
use Rattle.std.specs.Prelude.{ℕ, List, pos, slice_get, slice_set, Some, None}
use Rattle.tac_ir.specs.declared.code.Code.{Code}
use Rattle.tac_ir.specs.declared.code.Instr.{Instr}
use Rattle.tac_ir.specs.Layout.{lines_of}
use Rattle.tac_thread.specs.declared.guest.Activation.{Activation}
use Rattle.tac_thread.specs.declared.guest.Stage.{Stage}
use Rattle.tac_thread.specs.Meaning.{Meaning}
use Rattle.tac_thread.specs.tools.Fetched.{instr_in}

pub record Life (V S : Type 0) : Type 0 where
  -- the activation in which the thread stands
  pub top : Activation V S
  -- those that called it, the newest first, each at its call
  pub callers : List (Activation V S)
  -- what is already done of the instruction at which the thread stands
  pub stage : Stage V S

-- the instruction at which an activation stands
abbrev pub instr_of : {V S : Type 0} → Code → Activation V S → Instr
instr_of c a = instr_in (lines_of c a.fun) a.at

-- the integer 0, which a temporary has that nobody wrote
abbrev pub zero_of : {V S : Type 0} → Meaning V S → V
zero_of m = m.int (pos 0)

abbrev pub temp : {V S : Type 0} → Meaning V S → Activation V S → ℕ → V
temp m a t = elim (slice_get a.temps t) [ None ↦ zero_of m | Some v ↦ v ]

-- the activation with this value in temporary t
abbrev pub with_temp : {V S : Type 0} → Activation V S → ℕ → V → Activation V S
with_temp a t v = record a { temps = slice_set a.temps t v }

-- the activation at another index
abbrev pub at_index : {V S : Type 0} → Activation V S → ℕ → Activation V S
at_index a i = record a { at = i }

-- the thread with another activation on top, and nothing done of its instruction
abbrev pub with_top : {V S : Type 0} → Life V S → Activation V S → Life V S
with_top l a = record l { top = a; stage = Stage.Ready }

-- the thread with so much done of its instruction
abbrev pub with_stage : {V S : Type 0} → Life V S → Stage V S → Life V S
with_stage l stage = record l { stage = stage }
