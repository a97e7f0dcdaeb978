-- The least runnable name, and how a run ends, as a core tells them.
use Rattle.std.specs.Prelude.{ℕ, ◌-◌, ◌<◌, Option, Some, None, List, length, slice_get, nat_eq, if◌then◌else◌}
use Rattle.dfi_base.specs.Lives.{IsRunnable}
use Rattle.tac_ir.specs.declared.run.Answer.{Answer}
use Rattle.tac_ir.specs.declared.run.Entry.{Entry}
use Rattle.tac_ir.specs.declared.run.End.{End}
use Rattle.tac_ir.specs.declared.run.Limit.{Limit}
use Rattle.tac_ir.specs.Module.{Module}
use Rattle.tac_ir.specs.Words.{int_of}
use Rattle.tac_ir.specs.Threads.{threads_of}
use Rattle.tac_ir.specs.CoreRun.{end_by}
use Rattle.flat_core.specs.Stands.{Core, IsOver}

-- the least name of a runnable thread; none says that the run has ended
abbrev pub IsLeastOf : Module → List Entry → Option ℕ → Type 0
IsLeastOf m h None = IsOver m h
IsLeastOf m h (Some n) = (IsOver m h → ⊥) × IsRunnable (threads_of m) h n × ((k : ℕ) → k < n → IsRunnable (threads_of m) h k → ⊥)

-- the end by the last answer, where it stops the run
abbrev pub end_of_answer : End → Answer → End
end_of_answer otherwise (Answer.Stop stop) = end_by stop
end_of_answer otherwise answer = otherwise

abbrev pub end_of_last : End → Option Entry → End
end_of_last otherwise None = otherwise
end_of_last otherwise (Some e) = end_of_answer otherwise e.answer

-- the end by main's value, or by the number of entries
abbrev pub end_of_done : ℕ → ℕ → Option ℕ → End
end_of_done budget count (Some value) = End.Done (int_of value)
end_of_done budget count None = if nat_eq count budget then End.Limit Limit.Budget else End.Cut

abbrev pub end_in : Core → ℕ → End
end_in core budget = end_of_last (end_of_done budget (length core.entries) core.threads.done) (slice_get core.entries (length core.entries - 1))
