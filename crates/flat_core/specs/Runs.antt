-- Runs along turns.
use Rattle.std.specs.Prelude.{◌≡◌, ℕ, ◌-◌, ◌≤◌, ◌<◌, ◌^◌, ◌⊎◌, Some, List, ℤ, Result, Ok, Err, length, map, reverse, take, slice_get}
use Rattle.dfi_base.specs.declared.numbers.Name.{Name}
use Rattle.dfi_base.specs.Lives.{IsRunnable}
use Rattle.tac_ir.specs.declared.run.Entry.{Entry}
use Rattle.tac_ir.specs.declared.run.Journal.{Journal}
use Rattle.tac_ir.specs.Module.{Module}
use Rattle.tac_ir.specs.Threads.{threads_of}
use Rattle.tac_ir.specs.CoreRun.{IsHistory, CoreRun, IsByLeast, LeastRun}
use Rattle.flat_core.specs.declared.fault.RunFault.{RunFault}
use Rattle.flat_core.specs.declared.fault.StepFault.{StepFault}
use Rattle.flat_core.specs.declared.drive.Turns.{Turns}
use Rattle.flat_core.specs.Stands.{Core, history_of, IsCoreOf, IsOver}

-- who made these entries
abbrev pub names_of : List Entry → List Name
names_of entries = map (λ e. e.name) entries

-- a core run whose entries are by these names, one each
pub record IsRunAlong (m : Module) (input : List ℤ) (budget : ℕ) (names : List Name) (j : Journal) : Type 0 where
  pub run : CoreRun m input budget j
  pub made : names_of j.entries ≡ names

-- the run has ended after this history, or has used up its budget, or no runnable thread has this name
abbrev pub IsRefused : Module → ℕ → List Entry → Name → Type 0
IsRefused m budget h name = IsOver m h ⊎ ((budget ≤ length h) ⊎ (IsRunnable (threads_of m) h name.0 → ⊥))

-- there is a run along the names before name k, from 1, and it does not go on by that name
pub record IsRefusedAt (m : Module) (input : List ℤ) (budget : ℕ) (names : List Name) (k : ℕ) : Type 0 where
  pub low : 1 ≤ k
  pub name : Name
  pub here : slice_get names (k - 1) ≡ Some name
  pub history : List Entry
  pub run : IsHistory m input history
  pub before : names_of (reverse history) ≡ take (k - 1) names
  pub within : length history ≤ budget
  pub refused : IsRefused m budget history name

-- What a run along turns answers. Want of memory is free.
abbrev pub Gives : Module → List ℤ → ℕ → Turns → Result Journal RunFault → Type 0
Gives m input budget Turns.Least (Ok j) = LeastRun m input budget j
Gives m input budget Turns.Least (Err (RunFault.Names k)) = ⊥
Gives m input budget (Turns.Given names) (Ok j) = IsRunAlong m input budget names.items j
Gives m input budget (Turns.Given names) (Err (RunFault.Names k)) = IsRefusedAt m input budget names.items k
Gives m input budget turns (Err RunFault.Memory) = Unit {0}

-- fewer names than 2 ^ 31
abbrev pub IsShort : Turns → Type 0
IsShort Turns.Least = Unit {0}
IsShort (Turns.Given names) = length names.items < 2 ^ 31

-- Cores behind their loops.

-- a core whose entries are by these names
pub record HasGone (m : Module) (input : List ℤ) (budget : ℕ) (names : List Name) (core : Core) : Type 0 where
  pub is : IsCoreOf m input core
  pub made : names_of core.entries ≡ names
  pub within : length core.entries ≤ budget

-- a step that was refused, at this name from 1
abbrev pub refused_as : StepFault → ℕ → RunFault
refused_as StepFault.Over k = RunFault.Names k
refused_as StepFault.NotRunnable k = RunFault.Names k
refused_as StepFault.Memory k = RunFault.Memory

abbrev pub GoesAlong : Module → List ℤ → ℕ → List Name → Result (Unit {0}) RunFault → Core → Type 0
GoesAlong m input budget names (Ok done) core = HasGone m input budget names core
GoesAlong m input budget names (Err (RunFault.Names k)) core = IsRefusedAt m input budget names k
GoesAlong m input budget names (Err RunFault.Memory) core = Unit {0}

-- a core whose entries are by the least runnable names
pub record IsLeastCore (m : Module) (input : List ℤ) (core : Core) : Type 0 where
  pub is : IsCoreOf m input core
  pub least : IsByLeast m (history_of core)

-- and which has gone on to the end of its run
pub record GoesByLeast (m : Module) (input : List ℤ) (budget : ℕ) (core : Core) : Type 0 where
  pub gone : IsLeastCore m input core
  pub within : length core.entries ≤ budget
  pub whole : IsOver m (history_of core) ⊎ (length core.entries ≡ budget)
