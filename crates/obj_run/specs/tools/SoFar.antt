-- A run so far: its threads, its events behind those that it begins with, and where it stands.
use Rattle.std.specs.Prelude.{◌≡◌, ◌≢◌, ℕ, ◌⊎◌, ℤ, Bool, true, false, List, [], ◌∷◌, ◌++◌, reverse, length, replicate, Option, Some, None}
use Rattle.std.specs.List.{All}
use Rattle.obj_mem.specs.declared.value.Value.{Value}
use Rattle.obj_mem.specs.declared.event.Event.{Event}
use Rattle.obj_mem.specs.declared.event.Stamp.{Stamp}
use Rattle.obj_mem.specs.declared.event.SrcAnswer.{SrcAnswer}
use Rattle.obj_mem.specs.declared.run.SrcEnd.{SrcEnd}
use Rattle.obj_mem.specs.Alive.{but_first}
use Rattle.obj_mem.specs.Valid.{answer_of}
use Rattle.tac_ir.specs.declared.code.Code.{Code}
use Rattle.tac_thread.specs.declared.want.Want.{Want}
use Rattle.tac_thread.specs.Threads.{Threads, life_in, next_in, IsFed, Forks}
use Rattle.obj_run.specs.declared.threads.State.{State}
use Rattle.obj_run.specs.declared.values.ObjStack.{ObjStack}
use Rattle.obj_run.specs.Objects.{object_meaning}
use Rattle.obj_run.specs.Asked.{event_of, reply_of}
use Rattle.obj_run.specs.Entries.{Entry, stamps_of}
use Rattle.obj_run.specs.Starts.{opening}
use Rattle.obj_run.specs.Runs.{ObjLife, ObjLives, end_by, IsObjTree, IsNext, HasTrapped, is_zero, names_of}

pub record Run : Type 0 where
  pub tree : Threads Value ObjStack
  pub events : List Stamp
  pub opened : ℕ
  pub state : State

abbrev pub names_in : List Entry → List ℕ
names_in h = names_of (reverse (stamps_of h))

abbrev pub NoZeros : List Entry → Type 0
NoZeros h = All (λ e. is_zero e.stamp.event ≡ false) h

-- the names that the run has used up
pub data Stands (c : Code) (input : List ℤ) (h : List Entry) (f : ObjLives) (d : Option Value) (names : List ℕ) : State → Type 0 where
  going : names ≡ names_in h → NoZeros h → Stands c input h f d names State.Going
  trapped : names ≡ names_in h → NoZeros (but_first h) → HasTrapped h → d ≡ None → Stands c input h f d names State.Trapped
  wrong : (n : ℕ) (e : Event) → names ≡ names_in h ++ n ∷ [] → NoZeros h → IsNext c h f d n e → answer_of (stamps_of h ++ opening c input) n e ≡ None
      → Stands c input h f d names State.Wrong

pub record IsSoFar (c : Code) (input : List ℤ) (names : List ℕ) (r : Run) : Type 0 where
  pub entries : List Entry
  pub tree : IsObjTree c input entries (life_in r.tree) r.tree.done
  pub events : r.events ≡ reverse (opening c input) ++ reverse (stamps_of entries)
  pub opened : r.opened ≡ length (opening c input)
  pub stands : Stands c input entries (life_in r.tree) r.tree.done names r.state

-- the name is refused: the run has ended, or nobody of this name runs
abbrev pub Refuses : Code → Run → ℕ → Type 0
Refuses c r n = (r.state ≢ State.Going) ⊎ ((h : List Entry) (e : Event) → IsNext c h (life_in r.tree) r.tree.done n e → ⊥)

-- whether a name was used up, and what the run is then
abbrev pub Steps : Code → List ℤ → List ℕ → ℕ → Bool → Run → Run → Type 0
Steps c input names n true old new = IsSoFar c input (names ++ n ∷ []) new
Steps c input names n false old new = Refuses c old n

-- thread n runs and asks for this event, the run goes on, and this is its answer
pub record Asks (c : Code) (r : Run) (n : ℕ) (e : Event) (a : SrcAnswer) : Type 0 where
  pub want : Want Value
  pub wants : next_in object_meaning c (life_in r.tree) n ≡ Some want
  pub event : event_of c want ≡ Some e
  pub answer : answer_of (reverse r.events) n e ≡ Some a
  pub going : r.state ≡ State.Going
  pub lives : r.tree.done ≡ None

-- thread n forked into so many branches, each with its frame
abbrev pub ForksShared : Code → Threads Value ObjStack → ℕ → ℕ → Threads Value ObjStack → Type 0
ForksShared c old n branches new =
    (l : ObjLife) → life_in old n ≡ Some l → Forks object_meaning c (life_in old) old.done n (replicate branches l.top.stack) (life_in new) new.done

abbrev pub fork_in : Event → Option ℕ
fork_in (Event.Fork branches) = Some branches
fork_in e = None

abbrev pub AnswersBy : Code → Run → ℕ → SrcAnswer → Run → Bool → Option ℕ → Type 0
AnswersBy c old n a new true fork = new ≡ record old { state = State.Trapped }
AnswersBy c old n a new false (Some branches) = ForksShared c old.tree n branches new.tree × (new ≡ record old { tree = new.tree })
AnswersBy c old n a new false None = IsFed object_meaning c (life_in old.tree) old.tree.done n (reply_of a) (life_in new.tree) new.tree.done × (new ≡ record old { tree = new.tree })

-- the threads go on: by a division by 0, by a fork, or by what thread n is told
abbrev pub Answers : Code → Run → ℕ → Event → SrcAnswer → Run → Type 0
Answers c old n e a new = AnswersBy c old n a new (is_zero e) (fork_in e)

-- how the run ends
abbrev pub end_at : State → Option Value → SrcEnd
end_at State.Wrong d = SrcEnd.Invalid
end_at State.Trapped d = SrcEnd.Trap
end_at State.Going None = SrcEnd.Cut
end_at State.Going (Some v) = end_by v

abbrev pub end_in : Run → SrcEnd
end_in r = end_at r.state r.tree.done
