-- What a part does first: it is done, or it wants an event, behind which its trace is cut; and which answers fit an event.
use Rattle.std.proofs.Common.{◌≡◌, ℕ, suc, ◌+◌, ◌*◌, ◌≤◌, Bool, true, false, ◌&&◌, nat_le, List, [], ◌∷◌, refl, sym, ap, ◌∙◌, subst, Some, None}
use Rattle.std.proofs.lemmas.Bool.{leb-true}
use Rattle.obj_mem.specs.declared.value.Value.{Value}
use Rattle.obj_mem.specs.declared.event.Event.{Event}
use Rattle.obj_mem.specs.declared.event.SrcAnswer.{SrcAnswer}
use Rattle.src_law.specs.Acts.{End, Kind, nothing, a_value, a_truth, an_end, Result, Act, Acts, count, kind_of, is_last}
use Rattle.src_law.specs.Shuffles.{both_end}
use Rattle.src_law.specs.Traces.{Trace, Traces, by, is_done, is_deep, result_in, turn}
use Rattle.src_law.specs.tools.Heard.{Res, got, wants, off, bind, asks, unit_of}
use Rattle.src_law.specs.tools.Threads.{forked_by}
use Rattle.src_law.specs.tools.Reader.{reads, parted, branch_by, calls_at, turns_at}
use Rattle.src_law.proofs.Fuel.{Bodies}

abbrev pub is_unit : SrcAnswer → Bool
is_unit SrcAnswer.Unit = true
is_unit a = false

abbrev pub is_value : SrcAnswer → Bool
is_value (SrcAnswer.Value v) = true
is_value a = false

abbrev pub is_frame : SrcAnswer → Bool
is_frame (SrcAnswer.Frame m) = true
is_frame a = false

-- an answer of the kind that the event has
abbrev pub is_fit : Event → SrcAnswer → Bool
is_fit (Event.Rd p) a = is_value a
is_fit (Event.Same p q ne) a = is_value a
is_fit (Event.New site items words) a = is_value a
is_fit Event.In a = is_value a
is_fit Event.Left a = is_value a
is_fit (Event.Call f) a = is_frame a
is_fit e a = is_unit a

pub unit_is : (a : SrcAnswer) → is_unit a ≡ true → a ≡ SrcAnswer.Unit
unit_is SrcAnswer.Unit is = refl
unit_is (SrcAnswer.Value v) is = cc
unit_is (SrcAnswer.Frame m) is = cc

abbrev IsHeard : SrcAnswer → Kind → Type 0
IsHeard a k = (x : Result k) × (result_in k a ≡ Some x)

value_heard : (a : SrcAnswer) → is_value a ≡ true → IsHeard a a_value
value_heard SrcAnswer.Unit is = cc
value_heard (SrcAnswer.Value v) is = (v, refl)
value_heard (SrcAnswer.Frame m) is = cc

unit_heard : (a : SrcAnswer) → is_unit a ≡ true → IsHeard a nothing
unit_heard SrcAnswer.Unit is = (tt, refl)
unit_heard (SrcAnswer.Value v) is = cc
unit_heard (SrcAnswer.Frame m) is = cc

kind_is : (j k : Kind) → Some j ≡ Some k → j ≡ k
kind_is j k same = cc

-- what fits an event that a part may do by itself, is a result of it
pub fit_heard : (k : Kind) (e : Event) → kind_of e ≡ Some k → (a : SrcAnswer) → is_fit e a ≡ true → IsHeard a k
fit_heard k (Event.Rd p) is a fits = subst (IsHeard a) (kind_is a_value k is) (value_heard a fits)
fit_heard k (Event.Wr p v) is a fits = subst (IsHeard a) (kind_is nothing k is) (unit_heard a fits)
fit_heard k (Event.Same p q ne) is a fits = subst (IsHeard a) (kind_is a_value k is) (value_heard a fits)
fit_heard k (Event.New site items words) is a fits = subst (IsHeard a) (kind_is a_value k is) (value_heard a fits)
fit_heard k (Event.Free p) is a fits = subst (IsHeard a) (kind_is nothing k is) (unit_heard a fits)
fit_heard k Event.In is a fits = subst (IsHeard a) (kind_is a_value k is) (value_heard a fits)
fit_heard k Event.Left is a fits = subst (IsHeard a) (kind_is a_value k is) (value_heard a fits)
fit_heard k (Event.Out v) is a fits = subst (IsHeard a) (kind_is nothing k is) (unit_heard a fits)
fit_heard k (Event.Call f) is a fits = cc
fit_heard k Event.Ret is a fits = subst (IsHeard a) (kind_is nothing k is) (unit_heard a fits)
fit_heard k Event.Turn is a fits = cc
fit_heard k (Event.Fork n) is a fits = cc
fit_heard k Event.Zero is a fits = cc
fit_heard k Event.Bad is a fits = cc
fit_heard k (Event.Given v) is a fits = cc

last_heard : (e : Event) → is_last e ≡ true → (a : SrcAnswer) → is_fit e a ≡ true → a ≡ SrcAnswer.Unit
last_heard Event.Zero is a fits = unit_is a fits
last_heard Event.Bad is a fits = unit_is a fits
last_heard (Event.Rd p) is a fits = cc
last_heard (Event.Wr p v) is a fits = cc
last_heard (Event.Same p q ne) is a fits = cc
last_heard (Event.New site items words) is a fits = cc
last_heard (Event.Free p) is a fits = cc
last_heard Event.In is a fits = cc
last_heard Event.Left is a fits = cc
last_heard (Event.Out v) is a fits = cc
last_heard (Event.Call f) is a fits = cc
last_heard Event.Ret is a fits = cc
last_heard Event.Turn is a fits = cc
last_heard (Event.Fork n) is a fits = cc
last_heard (Event.Given v) is a fits = cc

pub data First (b : Bodies) (n f : ℕ) (k : Kind) (a : Act k) : Type 0 where
  has_got : (y : Result k) → reads b f k a [] ≡ got y [] → Trace b n k a [] (Some y) → First b n f k a
  has_want : (e : Event) → reads b f k a [] ≡ wants e → ((x : SrcAnswer) → is_fit e x ≡ true → Trace b n k a (by n e x ∷ []) None) → First b n f k a
  is_off : reads b f k a [] ≡ off → First b n f k a

-- branches that have done nothing
pub record Idle (b : Bodies) (n i : ℕ) (branches : Acts) : Type 0 where
  pub all : Bool
  pub traces : Traces b n i branches [] all

idle : (b : Bodies) (n i : ℕ) (branches : Acts) → Idle b n i branches
idle b n i Acts.no_more = record { all = true; traces = Traces.no_more n i }
idle b n i (Acts.beside a rest) =
    let more = idle b n (suc i) rest in
    record { all = is_done None && more.all; traces = Traces.beside n i a rest [] [] [] None more.all (Trace.cut_first (16 * n + i) an_end a) more.traces both_end }

calls_first : (b : Bodies) (n f : ℕ) (vs : List Value) (x : SrcAnswer) → is_frame x ≡ true → Trace b n a_value (Act.calls f vs) (by n (Event.Call f) x ∷ []) None
calls_first b n f vs SrcAnswer.Unit fits = cc
calls_first b n f vs (SrcAnswer.Value v) fits = cc
calls_first b n f vs (SrcAnswer.Frame m) fits = Trace.calls n f m vs [] None (Trace.cut_first n a_value (b f m vs))

loops_first : (b : Bodies) (n : ℕ) (test : Act a_truth) (inner step : Act an_end) (x : SrcAnswer) → is_unit x ≡ true → Trace b n an_end (Act.loops test inner step) (by n Event.Turn x ∷ []) None
loops_first b n test inner step SrcAnswer.Unit fits = Trace.loops n test inner step [] None (Trace.cut_first n an_end (turn test inner step))
loops_first b n test inner step (SrcAnswer.Value v) fits = cc
loops_first b n test inner step (SrcAnswer.Frame m) fits = cc

forks_first : (b : Bodies) (n : ℕ) (branches : Acts) (x : SrcAnswer) → count branches ≤ 15 → is_unit x ≡ true → Trace b n an_end (Act.forks branches) (by n (Event.Fork (count branches)) x ∷ []) None
forks_first b n branches (SrcAnswer.Value v) few fits = cc
forks_first b n branches (SrcAnswer.Frame m) few fits = cc
forks_first b n branches SrcAnswer.Unit few fits = go (is_deep n branches) refl (idle b n 1 branches)
  where
    go : (deep : Bool) → is_deep n branches ≡ deep → Idle b n 1 branches → Trace b n an_end (Act.forks branches) (by n (Event.Fork (count branches)) SrcAnswer.Unit ∷ []) None
    go true deep none = Trace.forks_deep n branches few deep
    go false shallow none = by_all none.all none.traces
      where
        by_all : (all : Bool) → Traces b n 1 branches [] all → Trace b n an_end (Act.forks branches) (by n (Event.Fork (count branches)) SrcAnswer.Unit ∷ []) None
        by_all true traces = Trace.cut_last n an_end (Act.forks branches) _ End.Done (Trace.forks n branches [] true few shallow traces)
        by_all false traces = Trace.forks n branches [] false few shallow traces

abbrev ForksBy : Bodies → ℕ → Acts → Bool → Res End
ForksBy b f branches few =
    elim few [ true ↦ bind (bind (asks (Event.Fork (count branches)) []) unit_of) (λ u. parted (branch_by (calls_at b f) (turns_at b f) branches)) | false ↦ off ]

forks_at_first : (b : Bodies) (n f : ℕ) (branches : Acts) (few : Bool) → nat_le (count branches) 15 ≡ few → First b n f an_end (Act.forks branches)
forks_at_first b n f branches true is = First.has_want (Event.Fork (count branches)) (ap (ForksBy b f branches) is) (λ x fits. forks_first b n branches x (leb-true (count branches) 15 is) fits)
forks_at_first b n f branches false is = First.is_off (ap (ForksBy b f branches) is)

then_first : (b : Bodies) (n g : ℕ) (j k : Kind) (a : Act j) (f : Result j → Act k) → First b n g j a → ((y : Result j) → First b n g k (f y)) → First b n g k (Act.then a f)
then_first b n g j k a f (First.has_got y is trace) more = go (more y)
  where
    go : First b n g k (f y) → First b n g k (Act.then a f)
    go (First.has_got z so later) = First.has_got z (ap (λ r. bind r (λ x. reads b g k (f x))) is ∙ so) (Trace.then n j k a f [] [] [] y (Some z) trace later refl)
    go (First.has_want e so later) =
        First.has_want e (ap (λ r. bind r (λ x. reads b g k (f x))) is ∙ so) (λ x fits. Trace.then n j k a f [] (by n e x ∷ []) (by n e x ∷ []) y None trace (later x fits) refl)
    go (First.is_off so) = First.is_off (ap (λ r. bind r (λ x. reads b g k (f x))) is ∙ so)
then_first b n g j k a f (First.has_want e is later) more = First.has_want e (ap (λ r. bind r (λ x. reads b g k (f x))) is) (λ x fits. Trace.then_cut n j k a f (by n e x ∷ []) (later x fits))
then_first b n g j k a f (First.is_off is) more = First.is_off (ap (λ r. bind r (λ x. reads b g k (f x))) is)

pub at_first : (b : Bodies) (n f : ℕ) (k : Kind) (a : Act k) → First b n f k a
at_first b n f k (Act.gives x) = First.has_got x refl (Trace.gives n k x)
at_first b n f k (Act.does e is) =
    First.has_want e refl (λ x fits. (let heard = fit_heard k e is x fits in Trace.cut_last n k (Act.does e is) (by n e x ∷ []) heard.0 (Trace.does n k e is x heard.0 heard.1)))
at_first b n f k (Act.stops e last) =
    First.has_want e refl (λ x fits. subst (λ z. Trace b n k (Act.stops e last) (by n e z ∷ []) None) (sym (last_heard e last x fits)) (Trace.stops n k e last))
at_first b n f k (Act.then {j} a g) = then_first b n f j k a g (at_first b n f j a) (λ y. at_first b n f k (g y))
at_first b n f k (Act.calls g vs) = First.has_want (Event.Call g) refl (λ x fits. calls_first b n g vs x fits)
at_first b n f k (Act.loops test inner step) = First.has_want Event.Turn refl (λ x fits. loops_first b n test inner step x fits)
at_first b n f k (Act.forks branches) = forks_at_first b n f branches (nat_le (count branches) 15) refl

-- What is no fork.

pub last_forks_none : (e : Event) → is_last e ≡ true → forked_by e ≡ 0
last_forks_none (Event.Fork n) is = cc
last_forks_none (Event.Rd p) is = refl
last_forks_none (Event.Wr p v) is = refl
last_forks_none (Event.Same p q ne) is = refl
last_forks_none (Event.New site items words) is = refl
last_forks_none (Event.Free p) is = refl
last_forks_none Event.In is = refl
last_forks_none Event.Left is = refl
last_forks_none (Event.Out v) is = refl
last_forks_none (Event.Call f) is = refl
last_forks_none Event.Ret is = refl
last_forks_none Event.Turn is = refl
last_forks_none Event.Zero is = refl
last_forks_none Event.Bad is = refl
last_forks_none (Event.Given v) is = refl

pub kind_forks_none : (k : Kind) (e : Event) → kind_of e ≡ Some k → forked_by e ≡ 0
kind_forks_none k (Event.Fork n) is = cc
kind_forks_none k (Event.Rd p) is = refl
kind_forks_none k (Event.Wr p v) is = refl
kind_forks_none k (Event.Same p q ne) is = refl
kind_forks_none k (Event.New site items words) is = refl
kind_forks_none k (Event.Free p) is = refl
kind_forks_none k Event.In is = refl
kind_forks_none k Event.Left is = refl
kind_forks_none k (Event.Out v) is = refl
kind_forks_none k (Event.Call f) is = refl
kind_forks_none k Event.Ret is = refl
kind_forks_none k Event.Turn is = refl
kind_forks_none k Event.Zero is = refl
kind_forks_none k Event.Bad is = refl
kind_forks_none k (Event.Given v) is = refl
