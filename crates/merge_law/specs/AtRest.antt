-- How a log came to rest, and its journal. Lists have the newest entry first.
use Rattle.std.specs.Prelude.{◌≡◌, ℕ, true, false, Some, None, List, reverse, length}
use Rattle.dfi_base.specs.Lives.{Ended, IsRunnableIn}
use Rattle.tac_ir.specs.declared.run.Entry.{Entry}
use Rattle.tac_ir.specs.declared.run.End.{End}
use Rattle.tac_ir.specs.declared.run.Limit.{Limit}
use Rattle.tac_ir.specs.declared.run.Journal.{Journal}
use Rattle.tac_ir.specs.Module.{Module}
use Rattle.tac_ir.specs.Path.{Start}
use Rattle.tac_ir.specs.Threads.{threads_of}
use Rattle.tac_ir.specs.CoreRun.{Returns, end_by}
use Rattle.merge_law.specs.declared.rest.Rest.{Rest}
use Rattle.merge_law.specs.Stops.{has_stop, kept, stop_of}

-- a thread of the log wants an event that it was not given
abbrev pub IsLeftIn : Module → ℕ → Start → List Entry → Type 0
IsLeftIn m n s h = (k : ℕ) × IsRunnableIn (threads_of m) n s h k

-- Main returned this value; or an entry stopped the run; or thread 1 has not ended, and where no entry stopped the run the budget is used up.
abbrev pub IsAtRest : Module → ℕ → List Entry → Rest → Type 0
IsAtRest m budget h (Rest.Returned v) = Returns m h v
IsAtRest m budget h Rest.Stopped = has_stop h ≡ true
IsAtRest m budget h Rest.LeftOff = (Ended (threads_of m) h 1 → ⊥) × (has_stop h ≡ false → length h ≡ budget)

-- the end of a log without a stop
abbrev pub end_at_rest : Rest → End
end_at_rest (Rest.Returned v) = End.Done v
end_at_rest rest = End.Limit Limit.Budget

-- the end of a log that is kept up to its first stop
abbrev pub end_of : Rest → List Entry → End
end_of rest kept = elim (stop_of kept) [ Some stop ↦ end_by stop | None ↦ end_at_rest rest ]

-- the journal of a log
abbrev pub journal_of : Rest → List Entry → Journal
journal_of rest h = record { entries = reverse (kept h); «end» = end_of rest (kept h) }
