-- What an instruction of a straight line does, by the global behind each temporary.
use Rattle.std.specs.Prelude.{ℕ, ◌<◌, List, [], ◌∷◌, ◌++◌, Option, Some, None, slice_index_or, slice_set}
use Rattle.tac_ir.specs.declared.code.Instr.{Instr}
use Rattle.first_module.specs.declared.steps.Step.{Step}
use Rattle.first_module.specs.StraightLine.{global_at}

-- the step of the global, where there is one
abbrev pub by_global : (ℕ → Step) → Option ℕ → Option Step
by_global step None = None
by_global step (Some g) = Some (step g)

-- the step of an instruction that may stand in a straight line
abbrev pub step_of : (ℕ → Option ℕ) → Instr → Option Step
step_of behind (Instr.Const to k) = Some Step.Quiet
step_of behind (Instr.Null to) = Some Step.Quiet
step_of behind (Instr.Un to op a) = Some Step.Quiet
step_of behind (Instr.Bin to op a b) = Some Step.Quiet
step_of behind (Instr.Out a) = Some Step.Quiet
step_of behind (Instr.Ret a r) = Some Step.Quiet
step_of behind (Instr.Addr to place) = by_global (λ g. Step.Quiet) (global_at place)
step_of behind (Instr.Decay to a shape) = by_global (λ g. Step.Quiet) (behind a)
step_of behind (Instr.Index to a b words) = by_global (λ g. Step.Quiet) (behind a)
step_of behind (Instr.Get to place r) = by_global (λ g. Step.Get g) (global_at place)
step_of behind (Instr.Set place a d) = by_global (λ g. Step.Write g d) (global_at place)
step_of behind (Instr.Load to a r) = by_global (λ g. Step.Load g) (behind a)
step_of behind (Instr.Store a b d) = by_global (λ g. Step.Write g d) (behind a)
step_of behind i = None

-- the temporary that an instruction sets, with the global into which its pointer then leads
abbrev pub moved_by : (ℕ → Option ℕ) → Instr → Option (ℕ × Option ℕ)
moved_by behind (Instr.Addr to place) = Some (to, global_at place)
moved_by behind (Instr.Decay to a shape) = Some (to, behind a)
moved_by behind (Instr.Index to a b words) = Some (to, behind a)
moved_by behind (Instr.Const to k) = Some (to, None)
moved_by behind (Instr.Null to) = Some (to, None)
moved_by behind (Instr.Un to op a) = Some (to, None)
moved_by behind (Instr.Bin to op a b) = Some (to, None)
moved_by behind (Instr.Get to place r) = Some (to, None)
moved_by behind (Instr.Load to a r) = Some (to, None)
moved_by behind i = None

-- the global of a step is one of so many
abbrev pub IsStepWithin : ℕ → Step → Type 0
IsStepWithin globals Step.Quiet = Unit {0}
IsStepWithin globals (Step.Get g) = g < globals
IsStepWithin globals (Step.Load g) = g < globals
IsStepWithin globals (Step.Write g d) = g < globals

-- the last of a list, alone
abbrev pub last_of : List ℕ → List ℕ
last_of [] = []
last_of (x ∷ []) = x ∷ []
last_of (x ∷ y ∷ rest) = last_of (y ∷ rest)

-- the set of the read that a step makes, by the definitions of each global
abbrev pub sets_in : (ℕ → List ℕ) → Step → List (List ℕ)
sets_in definitions Step.Quiet = []
sets_in definitions (Step.Get g) = last_of (definitions g) ∷ []
sets_in definitions (Step.Load g) = definitions g ∷ []
sets_in definitions (Step.Write g d) = []

-- the definitions of each global behind a step, kept as a list
abbrev pub definitions_after : Step → List (List ℕ) → List (List ℕ)
definitions_after Step.Quiet definitions = definitions
definitions_after (Step.Get g) definitions = definitions
definitions_after (Step.Load g) definitions = definitions
definitions_after (Step.Write g d) definitions = slice_set definitions g (slice_index_or definitions g [] ++ d ∷ [])
