-- A core, beside the history of its run.
use Rattle.std.specs.Prelude.{◌≡◌, ℕ, true, false, List, [], ◌∷◌, ◌++◌, ◌⊎◌, ℤ, Result, Ok, Err, reverse}
use Rattle.dfi_base.specs.Lives.{IsRunnable, Ended}
use Rattle.tac_ir.specs.declared.run.Entry.{Entry}
use Rattle.tac_ir.specs.Module.{Module}
use Rattle.tac_ir.specs.Path.{stops}
use Rattle.tac_ir.specs.Threads.{threads_of}
use Rattle.tac_ir.specs.CoreRun.{GoesOn, Follows, IsHistory}
use Rattle.tac_thread.specs.Threads.{IsSame}
use Rattle.flat_core.specs.declared.fault.StepFault.{StepFault}
use Rattle.flat_core.specs.declared.store.Store.{Store}
use Rattle.flat_core.specs.Serves.{FlatThreads, Serves}

pub record Core : Type 0 where
  pub threads : FlatThreads
  pub store : Store
  -- the oldest first
  pub entries : List Entry

-- what has happened, the newest first
abbrev pub history_of : Core → List Entry
history_of core = reverse core.entries

-- its parts are where the run is; behind a stop nothing is left to be done, and thread 1 has not ended
abbrev pub StandsBy : Module → List ℤ → Core → List Entry → Type 0
StandsBy m input core [] = Serves m input [] core.threads core.store
StandsBy m input core (e ∷ h) = elim (stops e.answer) [
  | true ↦ (Ended (threads_of m) (e ∷ h) 1 → ⊥)
  | false ↦ Serves m input (e ∷ h) core.threads core.store
]

-- a core of a run of this module with this input
pub record IsCoreOf (m : Module) (input : List ℤ) (core : Core) : Type 0 where
  pub history : IsHistory m input (history_of core)
  pub stands : StandsBy m input core (history_of core)

-- a core of this module
abbrev pub IsCore : Module → Core → Type 0
IsCore m core = (input : List ℤ) × IsCoreOf m input core

-- the run has ended: by a stop, or with thread 1
abbrev pub IsOver : Module → List Entry → Type 0
IsOver m h = (GoesOn h → ⊥) ⊎ Ended (threads_of m) h 1

-- nothing has changed
pub record IsSameCore (a b : Core) : Type 0 where
  pub threads : IsSame a.threads b.threads
  pub store : b.store ≡ a.store
  pub entries : b.entries ≡ a.entries

-- one more entry, which is by thread n and follows from those before
pub record IsStep (m : Module) (input : List ℤ) (n : ℕ) (old : Core) (e : Entry) (new : Core) : Type 0 where
  pub name : e.name.0 ≡ n
  pub follows : Follows m input (history_of old) e
  pub entries : new.entries ≡ old.entries ++ e ∷ []
  pub core : IsCoreOf m input new

-- What a step answers, and what the core is then.
abbrev pub Answers : Module → List ℤ → ℕ → Core → Result Entry StepFault → Core → Type 0
Answers m input n old (Ok e) new = IsStep m input n old e new
Answers m input n old (Err StepFault.Over) new = IsOver m (history_of old) × (new ≡ old)
Answers m input n old (Err StepFault.NotRunnable) new =
    (IsOver m (history_of old) → ⊥) × (IsRunnable (threads_of m) (history_of old) n → ⊥) × (new ≡ old)
Answers m input n old (Err StepFault.Memory) new = IsSameCore old new
