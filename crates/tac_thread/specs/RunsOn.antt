-- Silent instructions up to the next event.
use Rattle.std.specs.Prelude.{◌≡◌, ℕ, suc, Some, None}
use Rattle.tac_ir.specs.declared.code.Code.{Code}
use Rattle.tac_thread.specs.Meaning.{Meaning}
use Rattle.tac_thread.specs.Life.{Life}
use Rattle.tac_thread.specs.Doing.{silent_next}

-- a thread runs on over silent instructions, and comes to rest before one that asks
pub data RunsOn {V S : Type 0} (m : Meaning V S) (c : Code) : Life V S → Life V S → Type 0 where
  rests : (l : Life V S) → silent_next m c l ≡ None → RunsOn m c l l
  runs : (l next last : Life V S) → silent_next m c l ≡ Some next → RunsOn m c next last → RunsOn m c l last

-- how many instructions it runs over
abbrev pub count_of : {V S : Type 0} {m : Meaning V S} {c : Code} {l last : Life V S} → RunsOn m c l last → ℕ
count_of (RunsOn.rests l rest) = 0
count_of (RunsOn.runs l next last step on) = suc (count_of on)
