-- A journal is a run of the core.
use Rattle.std.specs.Prelude.{◌≡◌, ℕ, ◌≤◌, ◌<◌, false, nat_eq, Some, List, [], ◌∷◌, ℤ, reverse, length, if◌then◌else◌}
use Rattle.dfi_base.specs.Lives.{IsNext, IsRunnable, Ended, Begins, own}
use Rattle.tac_ir.specs.declared.run.Answer.{Answer}
use Rattle.tac_ir.specs.declared.run.Stop.{Stop}
use Rattle.tac_ir.specs.declared.run.Entry.{Entry}
use Rattle.tac_ir.specs.declared.run.End.{End}
use Rattle.tac_ir.specs.declared.run.Limit.{Limit}
use Rattle.tac_ir.specs.declared.run.Journal.{Journal}
use Rattle.tac_ir.specs.Module.{Module}
use Rattle.tac_ir.specs.Words.{int_of}
use Rattle.tac_ir.specs.Path.{Start, stops}
use Rattle.tac_ir.specs.Threads.{Want, EndsWith, threads_of}
use Rattle.tac_ir.specs.Answers.{IsAnswer}

-- the newest entry does not stop the run
abbrev pub GoesOn : List Entry → Type 0
GoesOn [] = Unit {0}
GoesOn (e ∷ h) = stops e.answer ≡ false

-- after the history h, this entry is what a runnable thread of its name wants, with its answer, and the run had not ended
pub record Follows (m : Module) (input : List ℤ) (h : List Entry) (e : Entry) : Type 0 where
  pub start : Start
  pub want : Want
  pub next : IsNext (threads_of m) h e.name.0 start want
  pub point : e.point ≡ want.point
  pub op : e.op ≡ want.op
  pub answer : IsAnswer m input h e.name.0 want.room e.op e.answer
  pub going : GoesOn h
  pub living : Ended (threads_of m) h 1 → ⊥

-- each entry follows from those before it; the newest first
unfoldable pub IsHistory : Module → List ℤ → List Entry → Type 0
IsHistory m input [] = Unit {0}
IsHistory m input (e ∷ h) = Follows m input h e × IsHistory m input h

-- thread 1 has ended with the value v of main
pub record Returns (m : Module) (h : List Entry) (v : ℤ) : Type 0 where
  pub start : Start
  pub begins : Begins (threads_of m) h 1 start
  pub word : ℕ
  pub last : EndsWith m.code start (own (threads_of m) 1 h) (Some word)
  pub ended : Ended (threads_of m) h 1
  pub value : v ≡ int_of word

abbrev pub end_by : Stop → End
end_by (Stop.Alarm found) = End.Alarm
end_by Stop.Divide = End.Trap
end_by Stop.Address = End.Trap
end_by Stop.Free = End.Trap
end_by Stop.Stack = End.Limit Limit.Stack
end_by Stop.Heap = End.Limit Limit.Heap
end_by Stop.Depth = End.Limit Limit.Depth
end_by Stop.Share = End.Limit Limit.Share

-- the end of a history in which thread 1 has not ended: by its last entry, by the budget, or cut off
abbrev pub end_after : ℕ → List Entry → End
end_after budget [] = if nat_eq 0 budget then End.Limit Limit.Budget else End.Cut
end_after budget (e ∷ h) =
    elim e.answer [ Answer.Stop stop ↦ end_by stop | _ ↦ (if nat_eq (length (e ∷ h)) budget then End.Limit Limit.Budget else End.Cut) ]

abbrev pub IsEnd : Module → ℕ → List Entry → End → Type 0
IsEnd m budget h (End.Done v) = Returns m h v
IsEnd m budget h end = (Ended (threads_of m) h 1 → ⊥) × (end ≡ end_after budget h)

-- the journal is a core run of the module with this input and budget
pub record CoreRun (m : Module) (input : List ℤ) (budget : ℕ) (j : Journal) : Type 0 where
  pub history : IsHistory m input (reverse j.entries)
  pub within : length j.entries ≤ budget
  pub end : IsEnd m budget (reverse j.entries) j.end

-- each entry is by the least runnable name
unfoldable pub IsByLeast : Module → List Entry → Type 0
IsByLeast m [] = Unit {0}
IsByLeast m (e ∷ h) = ((n : ℕ) → n < e.name.0 → IsRunnable (threads_of m) h n → ⊥) × IsByLeast m h

-- a core run along the least runnable names, up to its end
pub record LeastRun (m : Module) (input : List ℤ) (budget : ℕ) (j : Journal) : Type 0 where
  pub run : CoreRun m input budget j
  pub least : IsByLeast m (reverse j.entries)
  pub whole : j.end ≡ End.Cut → ⊥
