-- The traces of a part: what a thread does along it, the oldest stamp first, with free answers.
use Rattle.std.specs.Prelude.{◌≡◌, ◌≤◌, ℕ, suc, ◌+◌, ◌*◌, Bool, true, false, ◌&&◌, nat_le, List, [], ◌∷◌, ◌++◌, Option, Some, None}
use Rattle.dfi_base.specs.Names.{depth_of}
use Rattle.obj_mem.specs.declared.Maker.{Maker}
use Rattle.obj_mem.specs.declared.value.Value.{Value}
use Rattle.obj_mem.specs.declared.event.Event.{Event}
use Rattle.obj_mem.specs.declared.event.SrcAnswer.{SrcAnswer}
use Rattle.obj_mem.specs.declared.event.Stamp.{Stamp}
use Rattle.src_law.specs.Acts.{End, done, broken, again, returned, Kind, a_value, a_truth, an_end, nothing, Result, Act, Acts, ◌▷◌, kind_of, is_last, count}
use Rattle.src_law.specs.Shuffles.{IsShuffle}

abbrev pub by : ℕ → Event → SrcAnswer → Stamp
by n e a = record { name = record { 0 = n }; event = e; answer = a }

-- A fork has at most 15 branches, so that names differ. They have 64 bits: a thread that is 14 deep forks, and its branches do nothing
abbrev pub is_deep : ℕ → Acts → Bool
is_deep n Acts.no_more = false
is_deep n (Acts.beside a rest) = nat_le 14 (depth_of n)

-- behind the body of a turn: the step and the next turn, or the end of the loop
abbrev pub behind_body : Act an_end → Act an_end → End → Act an_end
behind_body step loop broken = Act.gives done
behind_body step loop (returned v) = Act.gives (returned v)
behind_body step loop done = step ▷ λ e. loop
behind_body step loop again = step ▷ λ e. loop

abbrev pub turn_by : Act an_end → Act an_end → Act an_end → Bool → Act an_end
turn_by body step loop false = Act.gives done
turn_by body step loop true = body ▷ behind_body step loop

-- what follows when a turn has begun: the condition, the body and the step, and the next turn
abbrev pub turn : Act a_truth → Act an_end → Act an_end → Act an_end
turn test body step = test ▷ turn_by body step (Act.loops test body step)

-- what a part hears in an answer
abbrev pub result_in : (k : Kind) → SrcAnswer → Option (Result k)
result_in nothing SrcAnswer.Unit = Some tt
result_in a_value (SrcAnswer.Value v) = Some v
result_in k a = None

abbrev pub is_done : Option End → Bool
is_done (Some done) = true
is_done r = false

abbrev pub joined : Bool → Option End
joined true = Some done
joined false = None

mutual
  -- thread n does this along the part, and comes to this result; none where the trace is cut
  pub data Trace (body : ℕ → Maker → List Value → Act a_value) : ℕ → (k : Kind) → Act k → List Stamp → Option (Result k) → Type 0 where
    -- cut before its first event, or when it has come to its result
    cut_first : (n : ℕ) (k : Kind) (a : Act k) → Trace body n k a [] None
    cut_last : (n : ℕ) (k : Kind) (a : Act k) (s : List Stamp) (x : Result k) → Trace body n k a s (Some x) → Trace body n k a s None
    gives : (n : ℕ) (k : Kind) (x : Result k) → Trace body n k (Act.gives x) [] (Some x)
    does : (n : ℕ) (k : Kind) (e : Event) (is : kind_of e ≡ Some k) (a : SrcAnswer) (x : Result k)
        → result_in k a ≡ Some x → Trace body n k (Act.does e is) (by n e a ∷ []) (Some x)
    stops : (n : ℕ) (k : Kind) (e : Event) (last : is_last e ≡ true) → Trace body n k (Act.stops e last) (by n e SrcAnswer.Unit ∷ []) None
    then : (n : ℕ) (j k : Kind) (a : Act j) (f : Result j → Act k) (s t u : List Stamp) (x : Result j) (r : Option (Result k))
        → Trace body n j a s (Some x) → Trace body n k (f x) t r → u ≡ s ++ t → Trace body n k (Act.then a f) u r
    then_cut : (n : ℕ) (j k : Kind) (a : Act j) (f : Result j → Act k) (s : List Stamp) → Trace body n j a s None → Trace body n k (Act.then a f) s None
    -- the frame is that which the call is answered
    calls : (n f : ℕ) (m : Maker) (vs : List Value) (s : List Stamp) (r : Option Value)
        → Trace body n a_value (body f m vs) s r → Trace body n a_value (Act.calls f vs) (by n (Event.Call f) (SrcAnswer.Frame m) ∷ s) r
    loops : (n : ℕ) (test : Act a_truth) (inner step : Act an_end) (s : List Stamp) (r : Option End)
        → Trace body n an_end (turn test inner step) s r → Trace body n an_end (Act.loops test inner step) (by n Event.Turn SrcAnswer.Unit ∷ s) r
    forks : (n : ℕ) (branches : Acts) (s : List Stamp) (all : Bool) → count branches ≤ 15 → is_deep n branches ≡ false → Traces body n 1 branches s all
        → Trace body n an_end (Act.forks branches) (by n (Event.Fork (count branches)) SrcAnswer.Unit ∷ s) (joined all)
    forks_deep : (n : ℕ) (branches : Acts) → count branches ≤ 15 → is_deep n branches ≡ true → Trace body n an_end (Act.forks branches) (by n (Event.Fork (count branches)) SrcAnswer.Unit ∷ []) None

  -- the branches of thread n from this one on do this, in any shuffle, and whether all have come to their ends
  pub data Traces (body : ℕ → Maker → List Value → Act a_value) : ℕ → ℕ → Acts → List Stamp → Bool → Type 0 where
    no_more : (n i : ℕ) → Traces body n i Acts.no_more [] true
    beside : (n i : ℕ) (a : Act an_end) (rest : Acts) (s t u : List Stamp) (r : Option End) (all : Bool)
        → Trace body (16 * n + i) an_end a s r → Traces body n (suc i) rest t all → IsShuffle s t u → Traces body n i (Acts.beside a rest) u (is_done r && all)
