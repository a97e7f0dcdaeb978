-- A trace that has come to its result has no event behind which nothing follows.
use Rattle.std.proofs.Common.{◌≡◌, ℕ, suc, ◌+◌, ◌*◌, Bool, true, false, ◌&&◌, List, [], ◌∷◌, ◌++◌, refl, sym, subst, Option, Some, None}
use Rattle.obj_mem.specs.declared.event.Event.{Event}
use Rattle.obj_mem.specs.declared.event.Stamp.{Stamp}
use Rattle.src_law.specs.Acts.{End, done, broken, again, returned, Kind, a_value, an_end, Result, Act, Acts, kind_of, is_last}
use Rattle.src_law.specs.Shuffles.{IsShuffle, both_end, left_first, right_first}
use Rattle.src_law.specs.Traces.{Trace, Traces, joined, is_done}
use Rattle.src_law.specs.Runs.{is_zero}
use Rattle.src_law.proofs.Fuel.{Bodies}

abbrev pub Calm : List Stamp → Type 0
Calm [] = Unit {0}
Calm (s ∷ u) = (is_last s.event ≡ false) × Calm u

calm_both : (s t : List Stamp) → Calm s → Calm t → Calm (s ++ t)
calm_both [] t left right = right
calm_both (x ∷ s) t left right = (left.0, calm_both s t left.1 right)

calm_shuffle : (s t u : List Stamp) → IsShuffle s t u → Calm s → Calm t → Calm u
calm_shuffle s t u both_end left right = tt
calm_shuffle s t u (left_first x xs ys zs more) left right = (left.0, calm_shuffle xs ys zs more left.1 right)
calm_shuffle s t u (right_first y xs ys zs more) left right = (right.0, calm_shuffle xs ys zs more left right.1)

pub calm_end : (u : List Stamp) (x : Stamp) → Calm (u ++ x ∷ []) → is_last x.event ≡ false
calm_end [] x calm = calm.0
calm_end (y ∷ u) x calm = calm_end u x calm.1

kind_calm : (k : Kind) (e : Event) → kind_of e ≡ Some k → is_last e ≡ false
kind_calm k (Event.Rd p) is = refl
kind_calm k (Event.Wr p v) is = refl
kind_calm k (Event.Same p q ne) is = refl
kind_calm k (Event.New site items words) is = refl
kind_calm k (Event.Free p) is = refl
kind_calm k Event.In is = refl
kind_calm k Event.Left is = refl
kind_calm k (Event.Out v) is = refl
kind_calm k (Event.Call f) is = refl
kind_calm k Event.Ret is = refl
kind_calm k Event.Turn is = refl
kind_calm k (Event.Fork n) is = refl
kind_calm k Event.Zero is = cc
kind_calm k Event.Bad is = cc
kind_calm k (Event.Given v) is = refl

pub calm_no_zero : (e : Event) → is_last e ≡ false → is_zero e ≡ false
calm_no_zero (Event.Rd p) is = refl
calm_no_zero (Event.Wr p v) is = refl
calm_no_zero (Event.Same p q ne) is = refl
calm_no_zero (Event.New site items words) is = refl
calm_no_zero (Event.Free p) is = refl
calm_no_zero Event.In is = refl
calm_no_zero Event.Left is = refl
calm_no_zero (Event.Out v) is = refl
calm_no_zero (Event.Call f) is = refl
calm_no_zero Event.Ret is = refl
calm_no_zero Event.Turn is = refl
calm_no_zero (Event.Fork n) is = refl
calm_no_zero Event.Zero is = cc
calm_no_zero Event.Bad is = refl
calm_no_zero (Event.Given v) is = refl

all_joined : {x : End} (all : Bool) → joined all ≡ Some x → all ≡ true
all_joined true is = refl
all_joined false is = cc

both_joined : (r : Option End) (all : Bool) → (is_done r && all) ≡ true → (r ≡ Some done) × (all ≡ true)
both_joined None all is = cc
both_joined (Some done) all is = (refl, is)
both_joined (Some broken) all is = cc
both_joined (Some again) all is = cc
both_joined (Some (returned v)) all is = cc

mutual
  pub calm_trace : (b : Bodies) (n : ℕ) (k : Kind) (a : Act k) (u : List Stamp) (r : Option (Result k)) (x : Result k) → Trace b n k a u r → r ≡ Some x → Calm u
  calm_trace b n k a u r x (Trace.cut_first _ _ _) is = tt
  calm_trace b n k a u r x (Trace.cut_last _ _ _ _ y trace) is = cc
  calm_trace b n k a u r x (Trace.gives _ _ y) is = tt
  calm_trace b n k a u r x (Trace.does _ _ e kind answer y heard) is = (kind_calm k e kind, tt)
  calm_trace b n k a u r x (Trace.stops _ _ e last) is = cc
  calm_trace b n k a u r x (Trace.then _ j _ first f s t _ y _ left right split) is =
      subst Calm (sym split) (calm_both s t (calm_trace b n j first s (Some y) y left refl) (calm_trace b n k (f y) t r x right is))
  calm_trace b n k a u r x (Trace.then_cut _ j _ first f _ left) is = cc
  calm_trace b n k a u r x (Trace.calls _ f m vs s _ trace) is = (refl, calm_trace b n a_value (b f m vs) s r x trace is)
  calm_trace b n k a u r x (Trace.loops _ test inner step s _ trace) is = (refl, calm_trace b n an_end _ s r x trace is)
  calm_trace b n k a u r x (Trace.forks _ branches s all few shallow traces) is = (refl, calm_traces b n 1 branches s all traces (all_joined all is))
  calm_trace b n k a u r x (Trace.forks_deep _ branches few deep) is = cc

  calm_traces : (b : Bodies) (n i : ℕ) (branches : Acts) (u : List Stamp) (all : Bool) → Traces b n i branches u all → all ≡ true → Calm u
  calm_traces b n i branches u all (Traces.no_more _ _) is = tt
  calm_traces b n i branches u all (Traces.beside _ _ a rest s t _ r all2 trace more shuffle) is =
      let both = both_joined r all2 is in
      calm_shuffle s t u shuffle (calm_trace b (16 * n + i) an_end a s r done trace both.0) (calm_traces b n (suc i) rest t all2 more both.1)
