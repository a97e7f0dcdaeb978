-- Threads by what they have heard, and runs along names by computation.
use Rattle.std.specs.Prelude.{◌≡◌, ℕ, zero, suc, ◌+◌, ◌*◌, ◌/◌, ◌%◌, Bool, true, false, nat_eq, nat_le, List, [], ◌∷◌, ◌++◌, map, reverse, length, Option, Some, None}
use Rattle.dfi_base.specs.Lives.{Kind, is_start_of, own, branches_after}
use Rattle.obj_mem.specs.declared.value.Value.{Value}
use Rattle.obj_mem.specs.declared.event.Event.{Event}
use Rattle.obj_mem.specs.declared.event.SrcAnswer.{SrcAnswer}
use Rattle.obj_mem.specs.declared.event.Stamp.{Stamp}
use Rattle.obj_mem.specs.declared.run.SrcEnd.{SrcEnd}
use Rattle.obj_mem.specs.Valid.{answer_of}
use Rattle.src_law.specs.Runs.{end_by, is_zero}
use Rattle.src_law.specs.Traces.{by}
use Rattle.src_law.specs.tools.Heard.{Heard, answer, branch, Res, got, wants, ended, off, Reads}

abbrev pub forked_by : Event → ℕ
forked_by (Event.Fork n) = n
forked_by e = 0

abbrev pub heard_of : Stamp → Heard
heard_of s = answer s.answer

-- how deep the life is that began when this was heard
unfoldable pub depth : List Heard → ℕ
depth [] = 0
depth (branch i ∷ l) = suc (depth l)
depth (answer a ∷ l) = depth l

-- what a life has heard since thread 1 began, by its beginning and its own stamps, the newest first
abbrev pub heard : List Heard → List Stamp → List Heard
heard start own = start ++ reverse (map heard_of own)

-- (threads that are 15 deep do nothing)
abbrev pub at : {A : Type 0} → Reads A → List Heard → List Stamp → Res A
at reads start own = elim (nat_le (depth start) 14) [ true ↦ reads (heard start own) | false ↦ off ]

abbrev pub wanted : {A : Type 0} → Res A → Option Event
wanted (wants e) = Some e
wanted r = None

abbrev pub is_settled : {A : Type 0} → Res A → Bool
is_settled (got v []) = true
is_settled ended = true
is_settled r = false

-- a life begins with all that was heard up to its fork, and the number of its branch
abbrev pub begins_by : List Heard → List Stamp → ℕ → List Heard
begins_by parent own i = heard parent own ++ answer SrcAnswer.Unit ∷ branch i ∷ []

abbrev pub threads_of : {A : Type 0} → Reads A → Kind Stamp (List Heard) Event
threads_of reads = record {
  name_of = λ s. s.name.0;
  branches_of = λ s. forked_by s.event;
  root = [];
  Branch = λ parent own n s. s ≡ begins_by parent own (n % 16);
  Wants = λ s own e. wanted (at reads s own) ≡ Some e;
  Stops = λ s own. is_settled (at reads s own) ≡ true;
}

-- how the life of thread n began
unfoldable pub start_of : {A : Type 0} → Reads A → List Stamp → ℕ → Option (List Heard)
unfolding own
start_of reads [] n = elim (nat_eq n 1) [ true ↦ Some [] | false ↦ None ]
start_of reads (s ∷ h) n =
    elim (is_start_of (threads_of reads) n s) [
      | false ↦ start_of reads h n
      | true ↦ elim (start_of reads h (n / 16)) [ None ↦ None | Some parent ↦ Some (begins_by parent (own (threads_of reads) (n / 16) h) (n % 16)) ]
    ]

abbrev pub life_of : {A : Type 0} → Reads A → List Stamp → ℕ → Res A
life_of reads h n = elim (start_of reads h n) [ None ↦ off | Some s ↦ at reads s (own (threads_of reads) n h) ]

abbrev pub branches_now : {A : Type 0} → Reads A → List Stamp → ℕ → ℕ
branches_now reads h n = branches_after (threads_of reads) (own (threads_of reads) n h)

-- the test holds of 1, 2 and so on, so many
abbrev pub all_up_to : ℕ → (ℕ → Bool) → Bool
all_up_to zero p = true
all_up_to (suc n) p = elim (p (suc n)) [ true ↦ all_up_to n p | false ↦ false ]

-- a thread and all its branches have come to their ends; so many generations are looked at
unfoldable pub has_ended : {A : Type 0} → ℕ → Reads A → List Stamp → ℕ → Bool
unfolding own start_of
has_ended zero reads h n = false
has_ended (suc turns) reads h n =
    elim (is_settled (life_of reads h n)) [ false ↦ false | true ↦ all_up_to (branches_now reads h n) (λ i. has_ended turns reads h (16 * n + i)) ]

abbrev pub generations : ℕ
generations = 16

abbrev pub next_of : {A : Type 0} → Reads A → List Stamp → ℕ → Option Event
next_of reads h n =
    elim (all_up_to (branches_now reads h n) (λ i. has_ended generations reads h (16 * n + i))) [ true ↦ wanted (life_of reads h n) | false ↦ None ]

pub data Ran : Type 0 where
  -- the events, the newest first, and how the run ends
  ran : List Stamp → SrcEnd → Ran
  -- the name at this place, from 1, is not runnable
  refused : ℕ → Ran

abbrev pub has_trapped : List Stamp → Bool
has_trapped [] = false
has_trapped (s ∷ h) = is_zero s.event

abbrev pub ended_by : Res Value → Option SrcEnd
ended_by (got v l) = Some (end_by v)
ended_by r = None

-- how a run has ended, if it has
abbrev pub end_of : Reads Value → List Stamp → Option SrcEnd
end_of reads h =
    elim (has_trapped h) [
      | true ↦ Some SrcEnd.Trap
      | false ↦ elim (has_ended generations reads h 1) [ true ↦ ended_by (life_of reads h 1) | false ↦ None ]
    ]

abbrev pub or_cut : Option SrcEnd → SrcEnd
or_cut None = SrcEnd.Cut
or_cut (Some e) = e

-- behind an invalid event
abbrev pub invalid_only : List Stamp → List ℕ → Ran
invalid_only h [] = ran h SrcEnd.Invalid
invalid_only h (n ∷ ns) = refused (suc (suc (length h)))

unfoldable pub run_from : Reads Value → List Stamp → List Stamp → List ℕ → Ran
unfolding own start_of has_ended
run_from reads opening h [] = ran h (or_cut (end_of reads h))
run_from reads opening h (n ∷ ns) =
    elim (has_trapped h) [
      | true ↦ refused (suc (length h))
      | false ↦ elim (next_of reads h n) [
        | None ↦ refused (suc (length h))
        | Some e ↦ elim (answer_of (h ++ opening) n e) [
          | None ↦ invalid_only h ns
          | Some a ↦ run_from reads opening (by n e a ∷ h) ns
        ]
      ]
    ]

abbrev pub run_along : Reads Value → List Stamp → List ℕ → Ran
run_along reads opening names = run_from reads opening [] names
