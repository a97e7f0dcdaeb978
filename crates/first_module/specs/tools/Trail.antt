-- What is kept behind the instructions of a straight line: the global behind each temporary, and the definitions of each global.
use Rattle.std.specs.Prelude.{◌≡◌, ℕ, ◌<◌, true, false, nat_eq, List, [], Option, Some, None, length, slice_index_or, IfSome}
use Rattle.tac_ir.specs.declared.code.Instr.{Instr}
use Rattle.tac_ir.specs.declared.code.Lined.{Lined}
use Rattle.first_module.specs.SetsOf.{definitions_of}
use Rattle.first_module.specs.StraightLine.{global_at, global_behind}
use Rattle.first_module.specs.tools.Steps.{moved_by}

-- a number below this one, where there is one
abbrev pub Below : ℕ → Option ℕ → Type 0
Below n o = IfSome o (λ g. g < n)

-- the globals that an instruction names as a whole are among so many
abbrev pub NamesWithin : ℕ → Instr → Type 0
NamesWithin globals (Instr.Addr to place) = Below globals (global_at place)
NamesWithin globals (Instr.Get to place r) = Below globals (global_at place)
NamesWithin globals (Instr.Set place a d) = Below globals (global_at place)
NamesWithin globals i = Unit {0}

-- the list with this global behind a temporary
abbrev pub Sets : ℕ → Option ℕ → List (Option ℕ) → List (Option ℕ) → Type 0
Sets temp global old new = (t : ℕ) → slice_index_or new t None ≡ elim (nat_eq temp t) [ true ↦ global | false ↦ slice_index_or old t None ]

-- the list behind an instruction
abbrev pub Moves : List (Option ℕ) → Instr → List (Option ℕ) → Type 0
Moves old i new = elim (moved_by (λ t. slice_index_or old t None) i) [
  | None ↦ (t : ℕ) → slice_index_or new t None ≡ slice_index_or old t None
  | Some m ↦ Sets m.0 m.1 old new
]

-- the lists have what these instructions leave behind them, the newest first
pub record HasTrail (globals : ℕ) (earlier : List Lined) (behind : List (Option ℕ)) (definitions : List (List ℕ)) : Type 0 where
  pub count : length definitions ≡ globals
  pub each : (g : ℕ) → g < globals → slice_index_or definitions g [] ≡ definitions_of g earlier
  pub behind_is : (t : ℕ) → slice_index_or behind t None ≡ global_behind earlier t
  pub within : (t : ℕ) → Below globals (global_behind earlier t)
