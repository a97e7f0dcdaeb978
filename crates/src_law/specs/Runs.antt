-- Runs: the traces of `main` with valid answers.
use Rattle.std.specs.Prelude.{◌≡◌, ◌≢◌, ℕ, suc, ◌⊎◌, ℤ, Bool, true, false, List, [], ◌∷◌, ◌++◌, map, reverse, length, Option, Some, None}
use Rattle.std.specs.List.{All}
use Rattle.c_typed.specs.Typed.{Typed}
use Rattle.obj_mem.specs.declared.value.Value.{Value}
use Rattle.obj_mem.specs.declared.event.Event.{Event}
use Rattle.obj_mem.specs.declared.event.SrcAnswer.{SrcAnswer}
use Rattle.obj_mem.specs.declared.event.Stamp.{Stamp}
use Rattle.obj_mem.specs.declared.run.SrcRun.{SrcRun}
use Rattle.obj_mem.specs.declared.run.SrcEnd.{SrcEnd}
use Rattle.obj_mem.specs.Alive.{but_first}
use Rattle.obj_mem.specs.Valid.{answer_of}
use Rattle.obj_mem.specs.Laws.{AreAnswered}
use Rattle.src_law.specs.Acts.{a_value}
use Rattle.src_law.specs.Traces.{Trace, by}
use Rattle.src_law.specs.Program.{body, main_act}
use Rattle.src_law.specs.Starts.{opening}

-- thread 1 and those below it do this, the newest first, and `main` comes to this result
abbrev pub Does : Typed → List Stamp → Option Value → Type 0
Does t h r = Trace (body t) 1 a_value (main_act t) (reverse h) r

abbrev pub is_zero : Event → Bool
is_zero Event.Zero = true
is_zero e = false

-- A history of the program with this input, the newest first: a trace whose answers are valid, and a division by 0 comes last.
pub record IsHistory (t : Typed) (input : List ℤ) (h : List Stamp) : Type 0 where
  pub result : Option Value
  pub does : Does t h result
  pub answered : AreAnswered (opening t input) h
  pub no_zero : All (λ s. is_zero s.event ≡ false) (but_first h)

abbrev pub HasReturned : Typed → List Stamp → Value → Type 0
HasReturned t h v = Does t h (Some v)

abbrev pub HasTrapped : List Stamp → Type 0
HasTrapped [] = ⊥
HasTrapped (s ∷ h) = is_zero s.event ≡ true

-- main has returned, or a thread has divided by 0
abbrev pub IsOver : Typed → List Stamp → Type 0
IsOver t h = ((v : Value) × HasReturned t h v) ⊎ HasTrapped h

-- some longer trace has this event of this name behind the history
pub record IsNext (t : Typed) (h : List Stamp) (n : ℕ) (e : Event) : Type 0 where
  pub answer : SrcAnswer
  pub result : Option Value
  pub does : Does t (by n e answer ∷ h) result
  pub going : IsOver t h → ⊥

abbrev pub IsRunnable : Typed → List Stamp → ℕ → Type 0
IsRunnable t h n = (e : Event) × IsNext t h n e

-- The run along names: its events are by them, and at an invalid event there is one name more.

abbrev pub end_by : Value → SrcEnd
end_by (Value.Int k) = SrcEnd.Done k
end_by v = SrcEnd.Invalid

pub data Ends (t : Typed) (input : List ℤ) (h : List Stamp) : List ℕ → SrcEnd → Type 0 where
  returns : (v : Value) → HasReturned t h v → Ends t input h [] (end_by v)
  traps : HasTrapped h → Ends t input h [] SrcEnd.Trap
  goes_wrong : (n : ℕ) (e : Event) → IsNext t h n e → answer_of (h ++ opening t input) n e ≡ None → Ends t input h (n ∷ []) SrcEnd.Invalid
  is_cut : (IsOver t h → ⊥) → Ends t input h [] SrcEnd.Cut

abbrev pub names_of : List Stamp → List ℕ
names_of stamps = map (λ s. s.name.0) stamps

abbrev pub out_by : Event → List ℤ → List ℤ
out_by (Event.Out v) vs = v ∷ vs
out_by e vs = vs

unfoldable pub outputs_of : List Stamp → List ℤ
outputs_of [] = []
outputs_of (s ∷ stamps) = out_by s.event (outputs_of stamps)

pub record IsRunAlong (t : Typed) (input : List ℤ) (names : List ℕ) (r : SrcRun) : Type 0 where
  pub history : IsHistory t input (reverse r.events)
  pub more : List ℕ
  pub along : names ≡ names_of r.events ++ more
  pub ends : Ends t input (reverse r.events) more r.end
  pub outputs : r.outputs ≡ outputs_of r.events

-- The name at this place, from 1, is that of no runnable thread behind the run along those before it, or that run has ended.
pub record IsRefusedAt (t : Typed) (input : List ℤ) (names : List ℕ) (k : ℕ) : Type 0 where
  pub before : List ℕ
  pub name : ℕ
  pub rest : List ℕ
  pub split : names ≡ before ++ name ∷ rest
  pub place : k ≡ suc (length before)
  pub run : SrcRun
  pub runs : IsRunAlong t input before run
  pub refused : (run.end ≢ SrcEnd.Cut) ⊎ (IsRunnable t (reverse run.events) name → ⊥)

-- Along no names does the program with this input do anything invalid.
abbrev pub Clean : Typed → List ℤ → Type 0
Clean t input = (names : List ℕ) (r : SrcRun) → IsRunAlong t input names r → r.end ≡ SrcEnd.Invalid → ⊥
