-- How histories and runs go on.
use Rattle.std.specs.Prelude.{◌≡◌, ℕ, ◌⊎◌, ℤ, List, [], ◌∷◌, ◌++◌, Option, Some}
use Rattle.obj_mem.specs.declared.value.Value.{Value}
use Rattle.obj_mem.specs.declared.event.Event.{Event}
use Rattle.obj_mem.specs.declared.event.SrcAnswer.{SrcAnswer}
use Rattle.obj_mem.specs.declared.run.SrcRun.{SrcRun}
use Rattle.obj_mem.specs.Valid.{answer_of}
use Rattle.tac_ir.specs.declared.code.Code.{Code}
use Rattle.tac_ir.specs.GoodForm.{GoodForm}
use Rattle.tac_thread.specs.declared.want.Want.{Want}
use Rattle.tac_thread.specs.Threads.{next_in}
use Rattle.obj_run.specs.Objects.{object_meaning}
use Rattle.obj_run.specs.Asked.{event_of, number_of}
use Rattle.obj_run.specs.Entries.{Entry, stamps_of}
use Rattle.obj_run.specs.Starts.{opening}
use Rattle.obj_run.specs.Runs.{ObjLives, IsObjTree, IsRunAlong, IsRefusedAt}

abbrev pub entry_by : ℕ → Want Value → Event → SrcAnswer → Entry
entry_by n w e a = record { stamp = record { name = record { 0 = n }; event = e; answer = a }; number = number_of w }

-- threads behind a history
abbrev pub IsHistoryOf : Code → List ℤ → List Entry → Type 0
IsHistoryOf c input h = (f : ObjLives) × ((d : Option Value) × IsObjTree c input h f d)

-- there is a history without entries, and each goes on by what a thread wants next, with its valid answer
pub record HistoriesGoOn (c : Code) (input : List ℤ) : Type 0 where
  pub begins : IsHistoryOf c input []
  pub goes_on : (h : List Entry) (f : ObjLives) (d : Option Value) → IsObjTree c input h f d → (n : ℕ) (w : Want Value) (e : Event) (a : SrcAnswer) → next_in object_meaning c f n ≡ Some w → event_of c w ≡ Some e
      → answer_of (stamps_of h ++ opening c input) n e ≡ Some a → IsHistoryOf c input (entry_by n w e a ∷ h)

abbrev pub CodeGoesOn : Type 0
CodeGoesOn = (c : Code) (input : List ℤ) → GoodForm c → HistoriesGoOn c input

-- along each list of names there is a run, or one of them is refused
abbrev pub RunsAreTotal : Type 0
RunsAreTotal = (c : Code) (input : List ℤ) → GoodForm c → (names : List ℕ) → ((r : SrcRun) × IsRunAlong c input names r) ⊎ ((k : ℕ) × IsRefusedAt c input names k)
