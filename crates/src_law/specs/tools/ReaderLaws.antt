-- What the reader does is the trace relation: histories are grown by threads that do what it says.
use Rattle.std.specs.Prelude.{◌≡◌, ℕ, ℤ, false, List, [], ◌++◌, Some}
use Rattle.std.specs.List.{All}
use Rattle.dfi_base.specs.Lives.{Kind, IsNext, Ended}
use Rattle.dfi_base.specs.Grown.{IsGrown}
use Rattle.c_typed.specs.Typed.{Typed}
use Rattle.obj_mem.specs.declared.value.Value.{Value}
use Rattle.obj_mem.specs.declared.event.Event.{Event}
use Rattle.obj_mem.specs.declared.event.Stamp.{Stamp}
use Rattle.obj_mem.specs.Alive.{but_first}
use Rattle.obj_mem.specs.Valid.{answer_of}
use Rattle.src_law.specs.Starts.{opening}
use Rattle.src_law.specs.Runs.{IsHistory, IsNext as IsTracedNext, HasReturned, IsOver, is_zero}
use Rattle.src_law.specs.tools.Heard.{Heard, got}
use Rattle.src_law.specs.tools.Reader.{source_reading}
use Rattle.src_law.specs.tools.Threads.{threads_of, life_of}

-- the threads of a program, by what they hear
abbrev pub source_threads : Typed → Kind Stamp (List Heard) Event
source_threads t = threads_of (source_reading t)

-- a stamp has the event that is wanted, and is answered as validity says after these stamps and those that came first
pub record IsAnswered (first h : List Stamp) (w : Event) (x : Stamp) : Type 0 where
  pub event : w ≡ x.event
  pub answer : answer_of (h ++ first) x.name.0 x.event ≡ Some x.answer

-- Histories are the lists of stamps in which each is by a thread that is next, has the event that it wants, and is answered as validity
-- says, where a division by 0 comes last. Who is next in the traces is so for the reader, and main has returned where thread 1 has ended.
pub record HistoriesAreRead : Type 0 where
  pub grown : (t : Typed) (input : List ℤ) (h : List Stamp) → IsHistory t input h → IsGrown (source_threads t) (IsAnswered (opening t input)) 1 [] h
  pub traced : (t : Typed) (input : List ℤ) (h : List Stamp) → IsGrown (source_threads t) (IsAnswered (opening t input)) 1 [] h
      → All (λ s. is_zero s.event ≡ false) (but_first h) → IsHistory t input h
  pub next : (t : Typed) (input : List ℤ) (h : List Stamp) (n : ℕ) (e : Event) → IsHistory t input h → IsTracedNext t h n e → (s : List Heard) × IsNext (source_threads t) h n s e
  pub going : (t : Typed) (input : List ℤ) (h : List Stamp) (n : ℕ) (s : List Heard) (e : Event) → IsHistory t input h → IsNext (source_threads t) h n s e → (IsOver t h → ⊥) → IsTracedNext t h n e
  pub returned : (t : Typed) (input : List ℤ) (h : List Stamp) (v : Value) → IsHistory t input h → HasReturned t h v
      → Ended (source_threads t) h 1 × (life_of (source_reading t) h 1 ≡ got v [])
  pub ended : (t : Typed) (input : List ℤ) (h : List Stamp) → IsHistory t input h → Ended (source_threads t) h 1 → (v : Value) × HasReturned t h v
