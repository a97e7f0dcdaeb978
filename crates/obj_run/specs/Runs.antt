-- Runs of code over objects: what the threads of its tree do, with valid answers.
use Rattle.std.specs.Prelude.{◌≡◌, ◌≢◌, ℕ, suc, ◌⊎◌, ℤ, Bool, true, false, nat_le, List, [], ◌∷◌, ◌++◌, map, reverse, length, Option, Some, None}
use Rattle.std.specs.List.{All}
use Rattle.obj_mem.specs.declared.value.Value.{Value}
use Rattle.obj_mem.specs.declared.event.Event.{Event}
use Rattle.obj_mem.specs.declared.event.Stamp.{Stamp}
use Rattle.obj_mem.specs.declared.run.SrcRun.{SrcRun}
use Rattle.obj_mem.specs.declared.run.SrcEnd.{SrcEnd}
use Rattle.obj_mem.specs.declared.run.SrcFault.{SrcFault}
use Rattle.obj_mem.specs.Alive.{but_first}
use Rattle.obj_mem.specs.Valid.{answer_of}
use Rattle.tac_ir.specs.declared.code.Code.{Code}
use Rattle.tac_ir.specs.Answers.{depth_of}
use Rattle.tac_thread.specs.declared.want.Want.{Want}
use Rattle.tac_thread.specs.declared.want.ReplyOf.{ReplyOf}
use Rattle.tac_thread.specs.Life.{Life}
use Rattle.tac_thread.specs.Doing.{want_of}
use Rattle.tac_thread.specs.Threads.{Lives, next_in}
use Rattle.tree_law.specs.Chain.{Saying, IsTreeAfter}
use Rattle.obj_run.specs.declared.values.ObjStack.{ObjStack}
use Rattle.obj_run.specs.Objects.{object_meaning, main_stack}
use Rattle.obj_run.specs.Asked.{event_of, number_of, reply_of}
use Rattle.obj_run.specs.Entries.{Entry, stamps_of, AreCovered}
use Rattle.obj_run.specs.Starts.{opening, first_entries}

abbrev pub ObjLife : Type 0
ObjLife = Life Value ObjStack

abbrev pub ObjLives : Type 0
ObjLives = Lives Value ObjStack

-- What an entry says of the life whose it is.

abbrev pub is_zero : Event → Bool
is_zero Event.Zero = true
is_zero e = false

-- a thread that is 14 deep waits for good at its fork
abbrev pub is_too_deep : ℕ → Event → Bool
is_too_deep n (Event.Fork branches) = nat_le 14 (depth_of n)
is_too_deep n e = false

-- The entry is that of thread n: the life wants its event, by its number, which is answered as is valid behind what was before.
pub record IsAsked (c : Code) (first h : List Stamp) (n : ℕ) (l : ObjLife) (e : Entry) : Type 0 where
  pub name : e.stamp.name.0 ≡ n
  pub want : Want Value
  pub wants : want_of object_meaning c l ≡ Some want
  pub event : event_of c want ≡ Some e.stamp.event
  pub number : e.number ≡ number_of want
  pub answer : answer_of (h ++ first) n e.stamp.event ≡ Some e.stamp.answer

-- and the reply tells the life that answer
pub record IsTold (c : Code) (first h : List Stamp) (n : ℕ) (l : ObjLife) (e : Entry) (reply : ReplyOf Value ObjStack) : Type 0 where
  pub asked : IsAsked c first h n l e
  pub replies : reply_of e.stamp.answer ≡ reply
  pub no_zero : is_zero e.stamp.event ≡ false
  pub shallow : is_too_deep n e.stamp.event ≡ false

-- branches share their parent's frame; a division by 0 stops the run; a fork that is too deep is answered, but nobody goes on
abbrev pub object_says : Code → List Stamp → Saying Value ObjStack Entry
object_says c first = record {
  Tells = λ h n l e reply. IsTold c first (stamps_of h) n l e reply;
  Shares = λ l stacks. All (λ s. s ≡ l.top.stack) stacks;
  Halts = λ h n l e. IsAsked c first (stamps_of h) n l e × (is_zero e.stamp.event ≡ true);
  Sticks = λ h n l e. IsAsked c first (stamps_of h) n l e × (is_too_deep n e.stamp.event ≡ true);
}

-- these threads live after a history, and this is main's value where it has returned
abbrev pub IsObjTree : Code → List ℤ → List Entry → ObjLives → Option Value → Type 0
IsObjTree c input h f d = IsTreeAfter object_meaning c main_stack (object_says c (opening c input)) h f d

-- A history of the code with this input, the newest first: a division by 0 comes last.
pub record IsHistory (c : Code) (input : List ℤ) (h : List Entry) : Type 0 where
  pub lives : ObjLives
  pub value : Option Value
  pub tree : IsObjTree c input h lives value
  pub no_zero : All (λ e. is_zero e.stamp.event ≡ false) (but_first h)

abbrev pub HasTrapped : List Entry → Type 0
HasTrapped [] = ⊥
HasTrapped (e ∷ h) = is_zero e.stamp.event ≡ true

-- main has returned, or a thread has divided by 0
abbrev pub IsOver : List Entry → Option Value → Type 0
IsOver h d = ((v : Value) × (d ≡ Some v)) ⊎ HasTrapped h

-- thread n runs, and its next event is this
pub record IsNext (c : Code) (h : List Entry) (f : ObjLives) (d : Option Value) (n : ℕ) (e : Event) : Type 0 where
  pub want : Want Value
  pub wants : next_in object_meaning c f n ≡ Some want
  pub event : event_of c want ≡ Some e
  pub going : IsOver h d → ⊥

abbrev pub IsRunnable : Code → List Entry → ObjLives → Option Value → ℕ → Type 0
IsRunnable c h f d n = (e : Event) × IsNext c h f d n e

-- The run along names: its events are by them, and at an invalid event there is one name more.

abbrev pub end_by : Value → SrcEnd
end_by (Value.Int k) = SrcEnd.Done k
end_by v = SrcEnd.Invalid

pub data Ends (c : Code) (input : List ℤ) (h : List Entry) (f : ObjLives) (d : Option Value) : List ℕ → SrcEnd → Type 0 where
  returns : (v : Value) → d ≡ Some v → Ends c input h f d [] (end_by v)
  traps : d ≡ None → HasTrapped h → Ends c input h f d [] SrcEnd.Trap
  goes_wrong : (n : ℕ) (e : Event) → IsNext c h f d n e → answer_of (stamps_of h ++ opening c input) n e ≡ None → Ends c input h f d (n ∷ []) SrcEnd.Invalid
  is_cut : (IsOver h d → ⊥) → Ends c input h f d [] SrcEnd.Cut

abbrev pub names_of : List Stamp → List ℕ
names_of stamps = map (λ s. s.name.0) stamps

abbrev pub out_by : Event → List ℤ → List ℤ
out_by (Event.Out v) vs = v ∷ vs
out_by e vs = vs

unfoldable pub outputs_of : List Stamp → List ℤ
outputs_of [] = []
outputs_of (s ∷ stamps) = out_by s.event (outputs_of stamps)

pub record IsRunAlong (c : Code) (input : List ℤ) (names : List ℕ) (r : SrcRun) : Type 0 where
  -- the newest first, with the numbers of reads and definitions
  pub entries : List Entry
  pub history : IsHistory c input entries
  pub events : r.events ≡ reverse (stamps_of entries)
  pub more : List ℕ
  pub along : names ≡ names_of r.events ++ more
  pub ends : Ends c input entries history.lives history.value more r.end
  pub outputs : r.outputs ≡ outputs_of r.events

-- The name at this place, from 1, is that of no runnable thread behind the run along those before it, or that run has ended.
pub record IsRefusedAt (c : Code) (input : List ℤ) (names : List ℕ) (k : ℕ) : Type 0 where
  pub before : List ℕ
  pub name : ℕ
  pub rest : List ℕ
  pub split : names ≡ before ++ name ∷ rest
  pub place : k ≡ suc (length before)
  pub run : SrcRun
  pub runs : IsRunAlong c input before run
  pub refused : (run.end ≢ SrcEnd.Cut) ⊎ (IsRunnable c runs.entries runs.history.lives runs.history.value name → ⊥)

-- Why there is no run along names; want of memory is free.
abbrev pub Tells : Code → List ℤ → List ℕ → SrcFault → Type 0
Tells c input names (SrcFault.NotRunnable k) = IsRefusedAt c input names k
Tells c input names SrcFault.Memory = Unit {0}

-- In the run along these names each read's last definition is in its set.
abbrev pub Cover : Code → List ℤ → List ℕ → (ℕ → ℕ → Bool) → Type 0
Cover c input names in_set = (r : SrcRun) (run : IsRunAlong c input names r) → AreCovered in_set (first_entries c input) run.entries
