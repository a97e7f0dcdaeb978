-- What comes first in a trace is a trace that is cut.
use Rattle.std.proofs.Common.{◌≡◌, ◌≤◌, ℕ, suc, ◌+◌, ◌*◌, Bool, true, false, ◌&&◌, List, [], ◌∷◌, ◌++◌, refl, sym, ap, ◌∙◌, subst, ◌⊎◌, inl, inr, Option, Some, None}
use Rattle.obj_mem.specs.declared.Maker.{Maker}
use Rattle.obj_mem.specs.declared.value.Value.{Value}
use Rattle.obj_mem.specs.declared.event.Event.{Event}
use Rattle.obj_mem.specs.declared.event.SrcAnswer.{SrcAnswer}
use Rattle.obj_mem.specs.declared.event.Stamp.{Stamp}
use Rattle.src_law.specs.Acts.{Kind, a_value, an_end, Result, Act, Acts, count}
use Rattle.src_law.specs.Traces.{Trace, Traces, by, joined, is_done, is_deep, turn}
use Rattle.src_law.proofs.Shuffling.{Within, Beyond, two_splits, HasFronts, fronts}

abbrev Bodies : Type 0
Bodies = ℕ → Maker → List Value → Act a_value

-- whatever a trace comes to, it may be cut there
pub cut_here : (b : Bodies) (n : ℕ) (k : Kind) (a : Act k) (s : List Stamp) (r : Option (Result k)) → Trace b n k a s r → Trace b n k a s None
cut_here b n k a s None trace = trace
cut_here b n k a s (Some x) trace = Trace.cut_last n k a s x trace

-- of a list of one, what comes first is nothing or all
one_front : (s t : List Stamp) (x : Stamp) → s ++ t ≡ x ∷ [] → (s ≡ []) ⊎ (s ≡ x ∷ [])
one_front [] t x same = inl refl
one_front (y ∷ []) t x same = inr (let is : y ≡ x = cc in ap (λ z. z ∷ []) is)
one_front (y ∷ z ∷ s) t x same = cc

-- the cut trace of a part that does one event
single : (b : Bodies) (n : ℕ) (k : Kind) (a : Act k) (x : Stamp) (s t : List Stamp) → Trace b n k a (x ∷ []) None → s ++ t ≡ x ∷ [] → Trace b n k a s None
single b n k a x s t whole same = go (one_front s t x same)
  where
    go : (s ≡ []) ⊎ (s ≡ x ∷ []) → Trace b n k a s None
    go (inl is) = subst (λ u. Trace b n k a u None) (sym is) (Trace.cut_first n k a)
    go (inr is) = subst (λ u. Trace b n k a u None) (sym is) whole

no_front : (s t : List Stamp) → s ++ t ≡ [] → s ≡ []
no_front [] t same = refl
no_front (x ∷ s) t same = cc

-- the cut trace of a part whose first event has what follows behind it
behind_event : (b : Bodies) (n : ℕ) (k : Kind) (a : Act k) (x : Stamp) (u s t : List Stamp)
    → ((w z : List Stamp) → w ++ z ≡ u → Trace b n k a (x ∷ w) None) → s ++ t ≡ x ∷ u → Trace b n k a s None
behind_event b n k a x u [] t later same = Trace.cut_first n k a
behind_event b n k a x u (y ∷ s) t later same =
    let first : y ≡ x = cc in
    let rest : s ++ t ≡ u = cc in
    subst (λ z. Trace b n k a (z ∷ s) None) (sym first) (later s t rest)

pub record SomeTraces (b : Bodies) (n i : ℕ) (branches : Acts) (s : List Stamp) : Type 0 where
  pub all : Bool
  pub traces : Traces b n i branches s all

abbrev Fronts : (b : Bodies) (n : ℕ) (k : Kind) → Act k → List Stamp → Type 0
Fronts b n k a u = (s t : List Stamp) → s ++ t ≡ u → Trace b n k a s None

-- of two parts, one behind the other, what comes first ends in the first or in the second
in_either : (b : Bodies) (n : ℕ) (j k : Kind) (a : Act j) (f : Result j → Act k) (s t s1 s2 : List Stamp) (x : Result j) → Trace b n j a s1 (Some x)
    → Fronts b n j a s1 → Fronts b n k (f x) s2 → Within s s1 ⊎ Beyond s t s1 s2 → Trace b n k (Act.then a f) s None
in_either b n j k a f s t s1 s2 x left first second (inl w) = Trace.then_cut n j k a f s (first s w.rest (sym w.is))
in_either b n j k a f s t s1 s2 x left first second (inr w) = Trace.then n j k a f s1 w.rest s x None left (second w.rest t (sym w.back)) w.front

abbrev BranchFronts : (b : Bodies) (n i : ℕ) → Acts → List Stamp → Type 0
BranchFronts b n i branches u = (s t : List Stamp) → s ++ t ≡ u → SomeTraces b n i branches s

behind_fork : (b : Bodies) (n : ℕ) (branches : Acts) (s t s0 : List Stamp) → count branches ≤ 15 → is_deep n branches ≡ false → BranchFronts b n 1 branches s0
    → s ++ t ≡ by n (Event.Fork (count branches)) SrcAnswer.Unit ∷ s0 → Trace b n an_end (Act.forks branches) s None
behind_fork b n branches [] t s0 few shallow front same = Trace.cut_first n an_end (Act.forks branches)
behind_fork b n branches (x ∷ s) t s0 few shallow front same =
    let is : x ≡ by n (Event.Fork (count branches)) SrcAnswer.Unit = cc in
    let rest : s ++ t ≡ s0 = cc in
    let some = front s t rest in
    subst (λ z. Trace b n an_end (Act.forks branches) (z ∷ s) None) (sym is)
    (cut_here b n an_end (Act.forks branches) (by n (Event.Fork (count branches)) SrcAnswer.Unit ∷ s) (joined some.all) (Trace.forks n branches s some.all few shallow some.traces))

with_fronts : (b : Bodies) (n i : ℕ) (a : Act an_end) (rest : Acts) (s s1 s2 : List Stamp) → Fronts b (16 * n + i) an_end a s1 → BranchFronts b n (suc i) rest s2
    → HasFronts s1 s2 s → SomeTraces b n i (Acts.beside a rest) s
with_fronts b n i a rest s s1 s2 first others f =
    let more = others f.right f.of_right.rest (sym f.of_right.is) in
    record {
      all = is_done None && more.all;
      traces = Traces.beside n i a rest f.left f.right s None more.all (first f.left f.of_left.rest (sym f.of_left.is)) more.traces f.shuffle;
    }

mutual
  pub front_cut : (b : Bodies) (n : ℕ) (k : Kind) (a : Act k) (u : List Stamp) (r : Option (Result k)) → Trace b n k a u r → (s t : List Stamp) → s ++ t ≡ u → Trace b n k a s None
  front_cut b n k a u r (Trace.cut_first _ _ _) s t same = subst (λ w. Trace b n k a w None) (sym (no_front s t same)) (Trace.cut_first n k a)
  front_cut b n k a u r (Trace.cut_last _ _ _ _ x trace) s t same = front_cut b n k a u (Some x) trace s t same
  front_cut b n k a u r (Trace.gives _ _ x) s t same = subst (λ w. Trace b n k a w None) (sym (no_front s t same)) (Trace.cut_first n k a)
  front_cut b n k a u r (Trace.does _ _ e is answer x heard) s t same = single b n k a (by n e answer) s t (Trace.cut_last _ _ _ _ x (Trace.does n k e is answer x heard)) same
  front_cut b n k a u r (Trace.stops _ _ e last) s t same = single b n k a (by n e SrcAnswer.Unit) s t (Trace.stops n k e last) same
  front_cut b n k a u r (Trace.then _ j _ first f s1 s2 _ x _ left right is) s t same =
      in_either b n j k first f s t s1 s2 x left (front_cut b n j first s1 (Some x) left) (front_cut b n k (f x) s2 r right) (two_splits s t s1 s2 (same ∙ is))
  front_cut b n k a u r (Trace.then_cut _ j _ first f _ left) s t same = Trace.then_cut n j k first f s (front_cut b n j first u None left s t same)
  front_cut b n k a u r (Trace.calls _ f m vs u0 _ trace) s t same =
      behind_event b n k a (by n (Event.Call f) (SrcAnswer.Frame m)) u0 s t (λ w z split. Trace.calls n f m vs w None (front_cut b n a_value (b f m vs) u0 r trace w z split)) same
  front_cut b n k a u r (Trace.loops _ test inner step u0 _ trace) s t same =
      behind_event b n k a (by n Event.Turn SrcAnswer.Unit) u0 s t (λ w z split. Trace.loops n test inner step w None (front_cut b n an_end (turn test inner step) u0 r trace w z split)) same
  front_cut b n k a u r (Trace.forks _ branches s0 all few shallow traces) s t same =
      behind_fork b n branches s t s0 few shallow (traces_front b n 1 branches s0 all traces) same
  front_cut b n k a u r (Trace.forks_deep _ branches few deep) s t same = single b n k a (by n (Event.Fork (count branches)) SrcAnswer.Unit) s t (Trace.forks_deep n branches few deep) same

  traces_front : (b : Bodies) (n i : ℕ) (branches : Acts) (u : List Stamp) (all : Bool) → Traces b n i branches u all → (s t : List Stamp) → s ++ t ≡ u → SomeTraces b n i branches s
  traces_front b n i branches u all (Traces.no_more _ _) s t same =
      record { all = true; traces = subst (λ w. Traces b n i Acts.no_more w true) (sym (no_front s t same)) (Traces.no_more n i) }
  traces_front b n i branches u all (Traces.beside _ _ a rest s1 s2 _ r all2 trace more shuffle) s t same =
      with_fronts b n i a rest s s1 s2 (front_cut b (16 * n + i) an_end a s1 r trace) (traces_front b n (suc i) rest s2 all2 more) (fronts s1 s2 u s t shuffle (sym same))
