-- Logs are core runs, and core runs are logs. Lists have the newest entry first.
use Rattle.std.specs.Prelude.{◌≡◌, ℕ, ◌≤◌, List, ℤ, length, reverse}
use Rattle.dfi_base.specs.Grown.{AreFew}
use Rattle.tac_ir.specs.declared.run.Entry.{Entry}
use Rattle.tac_ir.specs.declared.run.End.{End}
use Rattle.tac_ir.specs.declared.run.Journal.{Journal}
use Rattle.tac_ir.specs.Module.{Module}
use Rattle.tac_ir.specs.Served.{AreServed}
use Rattle.tac_ir.specs.Threads.{root_start, threads_of}
use Rattle.tac_ir.specs.CoreRun.{CoreRun}
use Rattle.merge_law.specs.declared.rest.Rest.{Rest}
use Rattle.merge_law.specs.Logs.{IsLogOf}
use Rattle.merge_law.specs.AtRest.{IsAtRest, journal_of}

-- a core run up to its end
pub record IsWholeRun (m : Module) (input : List ℤ) (budget : ℕ) (j : Journal) : Type 0 where
  pub run : CoreRun m input budget j
  pub whole : j.end ≡ End.Cut → ⊥

-- The log of thread 1, where one memory answered it, where it is at most the budget long and came to rest so, is a core run up to the first stop.
abbrev pub LogsAreOneRun : Type 0
LogsAreOneRun = (m : Module) (input : List ℤ) (budget : ℕ) (h : List Entry) (rest : Rest) → IsLogOf m 1 (root_start m) h → AreServed m input h
    → length h ≤ budget → IsAtRest m budget h rest → IsWholeRun m input budget (journal_of rest h)

-- the entries of a journal are the log of thread 1, and one memory answered them
pub record IsOfLog (m : Module) (input : List ℤ) (budget : ℕ) (j : Journal) : Type 0 where
  pub log : IsLogOf m 1 (root_start m) (reverse j.entries)
  pub served : AreServed m input (reverse j.entries)
  pub rest : (j.end ≡ End.Cut → ⊥) → (rest : Rest) × IsAtRest m budget (reverse j.entries) rest × (journal_of rest (reverse j.entries) ≡ j)

-- A core run whose entries start few branches, as those of a good form do, is a log that came to rest where it is not cut off.
abbrev pub RunsAreLogs : Type 0
RunsAreLogs = (m : Module) (input : List ℤ) (budget : ℕ) (j : Journal) → AreFew (threads_of m) (reverse j.entries) → CoreRun m input budget j → IsOfLog m input budget j
