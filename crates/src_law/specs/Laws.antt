-- Laws of traces and of runs.
use Rattle.std.specs.Prelude.{◌≡◌, ℕ, ℤ, false, List, ◌∷◌, ◌++◌, length, Option, Some, None}
use Rattle.std.specs.List.{All}
use Rattle.c_typed.specs.Typed.{Typed}
use Rattle.obj_mem.specs.declared.Maker.{Maker}
use Rattle.obj_mem.specs.declared.value.Obj.{Obj}
use Rattle.obj_mem.specs.declared.value.Value.{Value}
use Rattle.obj_mem.specs.declared.event.Event.{Event}
use Rattle.obj_mem.specs.declared.event.SrcAnswer.{SrcAnswer}
use Rattle.obj_mem.specs.declared.event.Stamp.{Stamp}
use Rattle.obj_mem.specs.declared.run.SrcRun.{SrcRun}
use Rattle.obj_mem.specs.Valid.{answer_of}
use Rattle.obj_mem.specs.Laws.{WasWritten, uses}
use Rattle.src_law.specs.Acts.{Kind, a_value, Result, Act}
use Rattle.src_law.specs.Traces.{Trace, by}
use Rattle.src_law.specs.Starts.{opening}
use Rattle.src_law.specs.Runs.{IsHistory, IsNext, HasReturned, IsRunAlong, IsRefusedAt, Clean, names_of}
use Rattle.src_law.specs.tools.Threads.{forked_by}

-- what comes first in a trace is a trace that is cut
abbrev pub PrefixesAreCut : Type 0
PrefixesAreCut = (body : ℕ → Maker → List Value → Act a_value) (n : ℕ) (k : Kind) (a : Act k) (s t : List Stamp) (r : Option (Result k))
    → Trace body n k a (s ++ t) r → Trace body n k a s None

-- a trace of thread 1 comes to one result
abbrev pub ResultsAreUnique : Type 0
ResultsAreUnique = (body : ℕ → Maker → List Value → Act a_value) (k : Kind) (a : Act k) (u : List Stamp) (x y : Result k)
    → Trace body 1 k a u (Some x) → Trace body 1 k a u (Some y) → x ≡ y

-- what a history has before its newest event is a history
abbrev pub HistoriesGoBack : Type 0
HistoriesGoBack = (t : Typed) (input : List ℤ) (later earlier : List Stamp) → IsHistory t input (later ++ earlier) → IsHistory t input earlier

-- what a read of a history is answered was written before, and last
abbrev pub ReadsFindWrites : Type 0
ReadsFindWrites = (t : Typed) (input : List ℤ) (later earlier : List Stamp) (s : Stamp) (o : Obj) (off lo hi : ℤ) → IsHistory t input (later ++ s ∷ earlier)
    → s.event ≡ Event.Rd (Value.Ptr o off lo hi) → (v : Value) × (s.answer ≡ SrcAnswer.Value v) × WasWritten (earlier ++ opening t input) o off v

-- behind a free of a block no event uses it
abbrev pub FreedIsOver : Type 0
FreedIsOver = (t : Typed) (input : List ℤ) (later earlier : List Stamp) (s : Stamp) (o : Obj) (off lo hi : ℤ) → IsHistory t input (later ++ s ∷ earlier)
    → s.event ≡ Event.Free (Value.Ptr o off lo hi) → All (λ e. uses o e.event ≡ false) later

-- a valid event of who is next makes the history longer
abbrev pub HistoriesGoOn : Type 0
HistoriesGoOn = (t : Typed) (input : List ℤ) (h : List Stamp) (n : ℕ) (e : Event) (a : SrcAnswer) → IsHistory t input h → IsNext t h n e
    → answer_of (h ++ opening t input) n e ≡ Some a → IsHistory t input (by n e a ∷ h)

-- a history is determined by its names
abbrev pub HistoriesAreOne : Type 0
HistoriesAreOne = (t : Typed) (input : List ℤ) (g h : List Stamp) → IsHistory t input g → IsHistory t input h → names_of g ≡ names_of h → g ≡ h

-- where nobody forks, it is determined by its length
abbrev pub AloneIsOne : Type 0
AloneIsOne = (t : Typed) (input : List ℤ) (g h : List Stamp) → IsHistory t input g → IsHistory t input h → All (λ s. forked_by s.event ≡ 0) g → All (λ s. forked_by s.event ≡ 0) h
    → length g ≡ length h → g ≡ h

-- along names there is one run, and none where one of them is refused
pub record RunsAreOne : Type 0 where
  pub run : (t : Typed) (input : List ℤ) (names : List ℕ) (r s : SrcRun) → IsRunAlong t input names r → IsRunAlong t input names s → r ≡ s
  pub refusal : (t : Typed) (input : List ℤ) (names : List ℕ) (j k : ℕ) → IsRefusedAt t input names j → IsRefusedAt t input names k → j ≡ k
  pub either : (t : Typed) (input : List ℤ) (names : List ℕ) (r : SrcRun) (k : ℕ) → IsRunAlong t input names r → IsRefusedAt t input names k → ⊥

-- a program is clean where all that is next is valid, and main returns numbers
pub record IsCleanByHistories (t : Typed) (input : List ℤ) : Type 0 where
  pub valid : (h : List Stamp) (n : ℕ) (e : Event) → IsHistory t input h → IsNext t h n e → answer_of (h ++ opening t input) n e ≡ None → ⊥
  pub number : (h : List Stamp) (v : Value) → IsHistory t input h → HasReturned t h v → (k : ℤ) × (v ≡ Value.Int k)

pub record CleanIsByHistories : Type 0 where
  pub to : (t : Typed) (input : List ℤ) → Clean t input → IsCleanByHistories t input
  pub from : (t : Typed) (input : List ℤ) → IsCleanByHistories t input → Clean t input
