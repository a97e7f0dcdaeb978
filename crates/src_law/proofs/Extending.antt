-- An event of a thread that is next, as the reader tells, makes the trace longer by one.
use Rattle.std.proofs.Common.{◌≡◌, ℕ, suc, ◌+◌, ◌*◌, ◌%◌, ◌≤◌, ◌<◌, Bool, true, false, ◌&&◌, List, [], ◌∷◌, ◌++◌, reverse, refl, sym, ap, ◌∙◌, subst, ◌⊎◌, inl, inr, Option, Some, None, arith}
use Rattle.std.proofs.lemmas.Bool.{cases_eq, leb-true}
use Rattle.std.proofs.lemmas.List.{append_assoc, append-nil}
use Rattle.dfi_base.specs.Names.{Below, depth_of}
use Rattle.dfi_base.specs.Names.Below.{itself}
use Rattle.dfi_base.specs.Lives.{own, is_start_of, BeginsIn, EndedIn, IsNextIn, branches_after}
use Rattle.dfi_base.proofs.Names.{below_siblings}
use Rattle.dfi_base.proofs.Entries.{own_mine, first_begins, few_branches, begun_below, started_is, not_started}
use Rattle.dfi_base.proofs.OneLife.{begins_one, next_not_ended}
use Rattle.obj_mem.specs.declared.Maker.{Maker}
use Rattle.obj_mem.specs.declared.value.Value.{Value}
use Rattle.obj_mem.specs.declared.event.Event.{Event}
use Rattle.obj_mem.specs.declared.event.SrcAnswer.{SrcAnswer}
use Rattle.obj_mem.specs.declared.event.Stamp.{Stamp}
use Rattle.src_law.specs.Acts.{End, done, broken, again, returned, Kind, an_end, Result, Act, Acts, count}
use Rattle.src_law.specs.Shuffles.{IsShuffle, both_end, left_first, right_first}
use Rattle.src_law.specs.Traces.{Trace, Traces, by, is_deep, is_done, turn}
use Rattle.src_law.specs.tools.Heard.{Heard, wants, off, Reads, bind}
use Rattle.src_law.specs.tools.Reader.{to_end}
use Rattle.src_law.specs.tools.Threads.{at, wanted, threads_of}
use Rattle.src_law.proofs.Fuel.{Bodies}
use Rattle.src_law.proofs.First.{First, at_first, is_fit, last_forks_none}
use Rattle.src_law.proofs.Stamps.{rev_cons, rev_both, IsBeyond, below_branch}
use Rattle.src_law.proofs.Parting.{next_part, next_rest}
use Rattle.src_law.proofs.Places.{one_way, born, Place, now_heard, at_place, own_step}
use Rattle.src_law.proofs.Prefixes.{SomeTraces}
use Rattle.src_law.proofs.Going.{BranchIsDeeper, Here, Went, went, went_all, WentAll, following, here_first, here_second, here_body, here_turn, want_at, AtFork, fork_of, start_at, begun_there, tail_over, branch_next, branch_place, branch_here, AreReady, one_ready, ready_here, want_fork, not_deep, own_beyond, join_of, part_or_over, never_before}
use Rattle.src_law.proofs.Ending.{all_done, stopped, reading_at, deep_start, deep_waits}

shuffle_left : {A : Type 0} (x : A) (s t u : List A) → IsShuffle s t u → IsShuffle (s ++ x ∷ []) t (u ++ x ∷ [])
shuffle_left x s t u both_end = left_first x [] [] [] both_end
shuffle_left x s t u (left_first y xs ys zs more) = left_first y (xs ++ x ∷ []) ys (zs ++ x ∷ []) (shuffle_left x xs ys zs more)
shuffle_left x s t u (right_first y xs ys zs more) = right_first y (xs ++ x ∷ []) ys (zs ++ x ∷ []) (shuffle_left x xs ys zs more)

shuffle_right : {A : Type 0} (x : A) (s t u : List A) → IsShuffle s t u → IsShuffle s (t ++ x ∷ []) (u ++ x ∷ [])
shuffle_right x s t u both_end = right_first x [] [] [] both_end
shuffle_right x s t u (left_first y xs ys zs more) = left_first y xs (ys ++ x ∷ []) (zs ++ x ∷ []) (shuffle_right x xs ys zs more)
shuffle_right x s t u (right_first y xs ys zs more) = right_first y xs (ys ++ x ∷ []) (zs ++ x ∷ []) (shuffle_right x xs ys zs more)

wants_off : (w : Event) → None ≡ Some w → ⊥
wants_off w same = cc

module _ {A : Type 0} (R : Reads A) (b : Bodies) (deeper : BranchIsDeeper) where
  -- behind a trace of the part the thread makes it longer, or is through with it
  pub data Longer (n : ℕ) (k : Kind) (a : Act k) (u : List Stamp) (q : ℕ) (x : Stamp) : Type 0 where
    longer : Trace b n k a (u ++ x ∷ []) None → Longer n k a u q x
    through : q ≡ n → (y : Result k) → Trace b n k a u (Some y) → Longer n k a u q x

  abbrev Next : ℕ → List Heard → List Stamp → ℕ → List Heard → Event → Type 0
  Next n s0 h q s w = IsNextIn (threads_of R) n s0 h q s w

  next_is : (n : ℕ) (s0 : List Heard) (h : List Stamp) (q : ℕ) (s : List Heard) (w : Event) → Place R n s0 h → Next n s0 h q s w → q ≡ n
  next_is n s0 h q s w p next = go (cases_eq q n)
    where
      go : (q ≡ n) ⊎ (q ≡ n → ⊥) → q ≡ n
      go (inl same) = same
      go (inr differs) = absurd (next_not_ended (threads_of R) (one_way R) n s0 h q s w next (p.all_over q s next.begins differs))

  pub want_is : (n : ℕ) (s0 : List Heard) (h : List Stamp) (q : ℕ) (s : List Heard) (w : Event) → Place R n s0 h → Next n s0 h q s w → wanted (R (now_heard R n s0 h)) ≡ Some w
  want_is n s0 h q s w p next =
      let same = next_is n s0 h q s w p next in
      let mine : Next n s0 h n s w = subst (λ z. Next n s0 h z s w) same next in
      let start = begins_one (threads_of R) (one_way R) n s0 h n s s0 mine.begins (first_begins (threads_of R) n s0 (λ g v x. v ≡ x.event) h p.grown) in
      sym (ap wanted (at_place R n s0 h p)) ∙ subst (λ z. wanted (at R z (own (threads_of R) n h)) ≡ Some w) start mine.wants

  long_first : (n : ℕ) (s0 : List Heard) (h : List Stamp) (k : Kind) (a : Act k) (next : Result k → Reads A) (q : ℕ) (s : List Heard) (w : Event) (answer : SrcAnswer) → Place R n s0 h
      → Here R b deeper n s0 h k a next → Next n s0 h q s w → is_fit w answer ≡ true → Longer n k a [] q (by q w answer)
  long_first n s0 h k a next q s w answer p here is fits = go (at_first b n 0 k a)
    where
      mine : q ≡ n
      mine = next_is n s0 h q s w p is

      want : wanted (R (now_heard R n s0 h)) ≡ Some w
      want = want_is n s0 h q s w p is

      some_same : (v : Event) → Some v ≡ Some w → v ≡ w
      some_same v same = cc

      go : First b n 0 k a → Longer n k a [] q (by q w answer)
      go (First.has_got y so trace) = through mine y trace
      go (First.has_want v so more) =
          let same = some_same v (sym (ap wanted (reading_at R b deeper n s0 h k a next (wants v) here so)) ∙ want) in
          longer (subst (λ m. Trace b n k a (by m w answer ∷ []) None) (sym mine) (subst (λ e. Trace b n k a (by n e answer ∷ []) None) same (more answer (subst (λ e. is_fit e answer ≡ true) (sym same) fits))))
      go (First.is_off so) = absurd (wants_off w (sym (ap wanted (reading_at R b deeper n s0 h k a next off here so)) ∙ want))

  -- behind a trace that has come to its result
  long_done : (n : ℕ) (s0 : List Heard) (h : List Stamp) (k : Kind) (a : Act k) (next : Result k → Reads A) (u : List Stamp) (y : Result k) (q : ℕ) (s : List Heard) (w : Event) (x : Stamp) → Place R n s0 h
      → Here R b deeper n s0 h k a next → Trace b n k a u (Some y) → Next n s0 (reverse u ++ h) q s w → Longer n k a u q x
  long_done n s0 h k a next u y q s w x p here trace is =
      let went_there = went R b deeper n s0 h k a next u (Some y) p here trace in
      through (next_is n s0 (reverse u ++ h) q s w (went_there.place y refl) is) y trace

  long_then : (n : ℕ) (j k : Kind) (a : Act j) (g : Result j → Act k) (s t u : List Stamp) (y : Result j) (q : ℕ) (x : Stamp) → Trace b n j a s (Some y) → u ≡ s ++ t → Longer n k (g y) t q x
      → Longer n k (Act.then a g) u q x
  long_then n j k a g s t u y q x left is (longer trace) = longer (Trace.then n j k a g s (t ++ x ∷ []) (u ++ x ∷ []) y None left trace (ap (λ z. z ++ x ∷ []) is ∙ append_assoc s t (x ∷ [])))
  long_then n j k a g s t u y q x left is (through mine z trace) = through mine z (Trace.then n j k a g s t u y (Some z) left trace is)

  long_cut : (n : ℕ) (s0 : List Heard) (h : List Stamp) (j k : Kind) (a : Act j) (g : Result j → Act k) (next : Result k → Reads A) (u : List Stamp) (q : ℕ) (s : List Heard) (w : Event) (answer : SrcAnswer)
      → Place R n s0 h → Here R b deeper n s0 h k (Act.then a g) next → Next n s0 (reverse u ++ h) q s w → is_fit w answer ≡ true → Longer n j a u q (by q w answer)
      → Longer n k (Act.then a g) u q (by q w answer)
  long_cut n s0 h j k a g next u q s w answer p here is fits (longer trace) = longer (Trace.then_cut n j k a g (u ++ by q w answer ∷ []) trace)
  long_cut n s0 h j k a g next u q s w answer p here is fits (through mine y trace) =
      let went_there = went R b deeper n s0 h j a (following R b deeper j k g next) u (Some y) p (here_first R b deeper n s0 h j k a g next here) trace in
      long_then n j k a g u [] u y q (by q w answer) trace (sym (append-nil u))
      (long_first n s0 (reverse u ++ h) k (g y) next q s w answer (went_there.place y refl) (here_second R b deeper n s0 u (reverse u ++ h) j k g next y went_there) is fits)

  -- behind a fork of a deep thread nobody is next
  deep_started : (n : ℕ) (s0 : List Heard) (h : List Stamp) (m q : ℕ) (s : List Heard) (w : Event) → AtFork R b deeper n s0 h m → 14 ≤ depth_of n
      → Next n s0 (fork_of R b deeper n m ∷ h) q s w → (q ≡ n → ⊥) → ⊥
  deep_started n s0 h m q s w f deep is differs = go (is_start_of (threads_of R) q (fork_of R b deeper n m)) refl
    where
      go : (t : Bool) → is_start_of (threads_of R) q (fork_of R b deeper n m) ≡ t → ⊥
      go false idle =
          next_not_ended (threads_of R) (one_way R) n s0 (fork_of R b deeper n m ∷ h) q s w is
          (tail_over R b deeper n s0 h m q s f idle is.begins differs)
      go true starts =
          let st = started_is (threads_of R) q (fork_of R b deeper n m) starts in
          let up = st.parent in
          let name : 16 * n + q % 16 ≡ q = omega (arith, up) in
          let begun = (begun_there R b deeper n s0 h m (q % 16) f st.from st.to).0 in
          let there = subst (λ z. BeginsIn (threads_of R) n s0 (fork_of R b deeper n m ∷ h) z (start_at R b deeper n s0 h (q % 16))) name begun in
          let same = begins_one (threads_of R) (one_way R) n s0 (fork_of R b deeper n m ∷ h) q s (start_at R b deeper n s0 h (q % 16)) is.begins there in
          let o = own (threads_of R) q (fork_of R b deeper n m ∷ h) in
          let nothing = ap wanted (deep_start R b deeper n s0 h m (q % 16) f deep o) in
          wants_off w (sym nothing ∙ subst (λ z. wanted (at R z o) ≡ Some w) same is.wants)

  deep_wait : (n : ℕ) (s0 : List Heard) (h : List Stamp) (branches : Acts) (s : List Heard) (w : Event) → AtFork R b deeper n s0 h (count branches) → is_deep n branches ≡ true
      → Next n s0 (fork_of R b deeper n (count branches) ∷ h) n s w → ⊥
  deep_wait n s0 h branches s w f deep is =
      deep_waits R b deeper n s0 h branches f deep (λ j low high.
      (let many = ap (branches_after (threads_of R)) (own_mine (threads_of R) n (fork_of R b deeper n (count branches)) h refl) in is.joined j low (omega (arith, high, many))))

  deep_by : (n : ℕ) (branches : Acts) → is_deep n branches ≡ true → 14 ≤ depth_of n
  deep_by n Acts.no_more deep = cc
  deep_by n (Acts.beside a rest) deep = leb-true 14 (depth_of n) deep

  -- a branch that is through wants nothing more
  end_wants : (y : End) (next : End → Reads A) (w : Event) → wanted (bind (to_end y []) next) ≡ Some w → ⊥
  end_wants done next w is = cc
  end_wants broken next w is = cc
  end_wants again next w is = cc
  end_wants (returned v) next w is = cc

  -- branches of which none goes on
  never_next : (n : ℕ) (s0 : List Heard) (h : List Stamp) (m i q : ℕ) (s : List Heard) (w : Event) → AtFork R b deeper n s0 h m → i ≡ suc m → Next n s0 (fork_of R b deeper n m ∷ h) q s w → (q ≡ n → ⊥)
      → ((j : ℕ) → 0 < j → j < i → Below (16 * n + j) q → ⊥) → ⊥
  never_next n s0 h m i q s w f is next differs never =
      next_not_ended (threads_of R) (one_way R) n s0 (fork_of R b deeper n m ∷ h) q s w next
      (tail_over R b deeper n s0 h m q s f
      (not_started (threads_of R) q (fork_of R b deeper n m) (λ st. (let up = st.parent in let to = st.to in never (q % 16) st.from (omega (arith, to, is)) (itself q (omega (arith, up))))))
      next.begins differs)

  -- the branches' traces, with an event more
  fork_longer : (n : ℕ) (branches : Acts) (s : List Stamp) (q : ℕ) (x : Stamp) → count branches ≤ 15 → is_deep n branches ≡ false → SomeTraces b n 1 branches (s ++ x ∷ [])
      → Longer n an_end (Act.forks branches) (fork_of R b deeper n (count branches) ∷ s) q x
  fork_longer n branches s q x few shallow some = longer (go some.all some.traces)
    where
      go : (all : Bool) → Traces b n 1 branches (s ++ x ∷ []) all → Trace b n an_end (Act.forks branches) (fork_of R b deeper n (count branches) ∷ (s ++ x ∷ [])) None
      go true traces = Trace.cut_last n an_end (Act.forks branches) (fork_of R b deeper n (count branches) ∷ (s ++ x ∷ [])) done (Trace.forks n branches (s ++ x ∷ []) true few shallow traces)
      go false traces = Trace.forks n branches (s ++ x ∷ []) false few shallow traces

  -- an event of a branch, by what its trace is with it
  branch_longer : (n i : ℕ) (a : Act an_end) (rest : Acts) (s t u : List Stamp) (all : Bool) (x : Stamp) → IsShuffle s t u → Traces b n (suc i) rest t all → Trace b (16 * n + i) an_end a (s ++ x ∷ []) None
      → SomeTraces b n i (Acts.beside a rest) (u ++ x ∷ [])
  branch_longer n i a rest s t u all x shuffle more trace =
      record { all = is_done None && all; traces = Traces.beside n i a rest (s ++ x ∷ []) t (u ++ x ∷ []) None all trace more (shuffle_left x s t u shuffle) }

  others_longer : (n i : ℕ) (a : Act an_end) (rest : Acts) (s t u : List Stamp) (r : Option End) (x : Stamp) → IsShuffle s t u → Trace b (16 * n + i) an_end a s r → SomeTraces b n (suc i) rest (t ++ x ∷ [])
      → SomeTraces b n i (Acts.beside a rest) (u ++ x ∷ [])
  others_longer n i a rest s t u r x shuffle trace some =
      record { all = is_done r && some.all; traces = Traces.beside n i a rest s (t ++ x ∷ []) (u ++ x ∷ []) r some.all trace some.traces (shuffle_right x s t u shuffle) }

  called : (n f : ℕ) (m : Maker) (vs : List Value) (s : List Stamp) (q : ℕ) (x : Stamp) → Longer n Kind.a_value (b f m vs) s q x
      → Longer n Kind.a_value (Act.calls f vs) (by n (Event.Call f) (SrcAnswer.Frame m) ∷ s) q x
  called n f m vs s q x (longer trace) = longer (Trace.calls n f m vs (s ++ x ∷ []) None trace)
  called n f m vs s q x (through mine y trace) = through mine y (Trace.calls n f m vs s (Some y) trace)

  looped : (n : ℕ) (test : Act Kind.a_truth) (inner step : Act an_end) (s : List Stamp) (q : ℕ) (x : Stamp) → Longer n an_end (turn test inner step) s q x
      → Longer n an_end (Act.loops test inner step) (by n Event.Turn SrcAnswer.Unit ∷ s) q x
  looped n test inner step s q x (longer trace) = longer (Trace.loops n test inner step (s ++ x ∷ []) None trace)
  looped n test inner step s q x (through mine y trace) = through mine y (Trace.loops n test inner step s (Some y) trace)

  -- the thread itself goes on where all its branches are done; else one of them does
  at_fork : (n : ℕ) (s0 : List Heard) (h : List Stamp) (branches : Acts) (next : End → Reads A) (s1 : List Stamp) (all : Bool) (q : ℕ) (s : List Heard) (w : Event) (answer : SrcAnswer)
      → AtFork R b deeper n s0 h (count branches) → count branches ≤ 15 → is_deep n branches ≡ false → AreReady R b deeper (now_heard R n s0 h) next 1 branches → Traces b n 1 branches s1 all
      → Next n s0 (reverse s1 ++ fork_of R b deeper n (count branches) ∷ h) q s w → ((q ≡ n → ⊥) → SomeTraces b n 1 branches (s1 ++ by q w answer ∷ []))
      → Longer n an_end (Act.forks branches) (fork_of R b deeper n (count branches) ∷ s1) q (by q w answer)
  at_fork n s0 h branches next s1 all q s w answer f few shallow ready traces there more = go (cases_eq q n)
    where
      went_there : WentAll R b deeper n s0 1 branches s1 (reverse s1 ++ fork_of R b deeper n (count branches) ∷ h) all
      went_there = went_all R b deeper n s0 h (count branches) 1 branches next s1 all f (omega arith) (omega arith) (not_deep R b deeper n branches shallow) ready traces

      go : (q ≡ n) ⊎ (q ≡ n → ⊥) → Longer n an_end (Act.forks branches) (fork_of R b deeper n (count branches) ∷ s1) q (by q w answer)
      go (inr differs) = fork_longer n branches s1 q (by q w answer) few shallow (more differs)
      go (inl same) =
          let mine : Next n s0 (reverse s1 ++ fork_of R b deeper n (count branches) ∷ h) n s w = subst (λ z. Next n s0 (reverse s1 ++ fork_of R b deeper n (count branches) ∷ h) z s w) same there in
          let many = ap (branches_after (threads_of R)) (own_beyond R b deeper n s1 (fork_of R b deeper n (count branches) ∷ h) went_there.beyond ∙ own_mine (threads_of R) n (fork_of R b deeper n (count branches)) h refl) in
          through same done
          (Trace.forks n branches s1 true few shallow
          (all_done R b deeper n s0 h (count branches) 1 branches next s1 all f (omega arith) (omega arith) (not_deep R b deeper n branches shallow) ready traces
          (λ j low high. mine.joined j low (omega (arith, high, many)))))

  deep_longer : (n : ℕ) (s0 : List Heard) (h : List Stamp) (branches : Acts) (next : End → Reads A) (q : ℕ) (s : List Heard) (w : Event) (x : Stamp)
      → AtFork R b deeper n s0 h (count branches) → count branches ≤ 15 → is_deep n branches ≡ true → Next n s0 (fork_of R b deeper n (count branches) ∷ h) q s w
      → Longer n an_end (Act.forks branches) (fork_of R b deeper n (count branches) ∷ []) q x
  deep_longer n s0 h branches next q s w x f few deep is = absurd (go (cases_eq q n))
    where
      one : (i : ℕ) → i ≡ n → Next n s0 (fork_of R b deeper n (count branches) ∷ h) i s w → ⊥
      one i same mine = deep_wait n s0 h branches s w f deep (subst (λ z. Next n s0 (fork_of R b deeper n (count branches) ∷ h) z s w) same mine)

      go : (q ≡ n) ⊎ (q ≡ n → ⊥) → ⊥
      go (inl same) = one q same is
      go (inr differs) = deep_started n s0 h (count branches) q s w f (deep_by n branches deep) is differs

  module _ (n : ℕ) (s0 : List Heard) (h : List Stamp) (m i : ℕ) (f : AtFork R b deeper n s0 h m) (low : 0 < i) (high : i ≤ m) (rest : Acts) (s1 t u : List Stamp) (r : Option End) (all : Bool) (next : End → Reads A)
      (shuffle : IsShuffle s1 t u) (first : Went R b deeper (16 * n + i) (start_at R b deeper n s0 h i) s1 (reverse s1 ++ []) an_end (branch_next R b deeper next) r)
      (others : WentAll R b deeper n s0 (suc i) rest t (reverse t ++ fork_of R b deeper n m ∷ h) all) where
    by_branch : (a : Act an_end) (q : ℕ) (s : List Heard) (w : Event) (answer : SrcAnswer) → Trace b (16 * n + i) an_end a s1 r → Traces b n (suc i) rest t all
        → Next n s0 (reverse u ++ fork_of R b deeper n m ∷ h) q s w → (q ≡ n → ⊥) → ((j : ℕ) → 0 < j → j < i → Below (16 * n + j) q → ⊥)
        → (Next (16 * n + i) (start_at R b deeper n s0 h i) (reverse s1 ++ []) q s w → Longer (16 * n + i) an_end a s1 q (by q w answer))
        → Place R (16 * n + i) (start_at R b deeper n s0 h i) [] → Here R b deeper (16 * n + i) (start_at R b deeper n s0 h i) [] an_end a (branch_next R b deeper next)
        → (Next n s0 (reverse t ++ fork_of R b deeper n m ∷ h) q s w → ((j : ℕ) → 0 < j → j < suc i → Below (16 * n + j) q → ⊥) → SomeTraces b n (suc i) rest (t ++ by q w answer ∷ []))
        → SomeTraces b n i (Acts.beside a rest) (u ++ by q w answer ∷ [])
    by_branch a q s w answer trace more there differs never in_branch place here in_others =
        go (below_branch n q (begun_below (threads_of R) n s0 whole q s there.begins))
      where
        whole : List Stamp
        whole = reverse u ++ fork_of R b deeper n m ∷ h

        q0 : ℕ
        q0 = 16 * n + i

        si : List Heard
        si = start_at R b deeper n s0 h i

        few_i : i ≤ 15
        few_i = (let few = f.few in omega (arith, high, few))

        begun : BeginsIn (threads_of R) n s0 (fork_of R b deeper n m ∷ h) (16 * n + i) (start_at R b deeper n s0 h i) × (own (threads_of R) (16 * n + i) (fork_of R b deeper n m ∷ h) ≡ [])
        begun = begun_there R b deeper n s0 h m i f low high

        from_branch : Next (16 * n + i) (start_at R b deeper n s0 h i) (reverse s1 ++ []) q s w → Longer (16 * n + i) an_end a s1 q (by q w answer) → SomeTraces b n i (Acts.beside a rest) (u ++ by q w answer ∷ [])
        from_branch part (longer trace2) = branch_longer n i a rest s1 t u all (by q w answer) shuffle more trace2
        from_branch part (through mine y trace2) =
            let w3 = went R b deeper (16 * n + i) (start_at R b deeper n s0 h i) [] an_end a (branch_next R b deeper next) s1 (Some y) place here trace2 in
            let reading = ap R (sym (append-nil (now_heard R (16 * n + i) (start_at R b deeper n s0 h i) (reverse s1 ++ [])))) ∙ w3.on y refl [] tt in
            absurd (end_wants y next w (sym (ap wanted reading) ∙ want_is (16 * n + i) (start_at R b deeper n s0 h i) (reverse s1 ++ []) q s w (w3.place y refl) part))

        in_part : BeginsIn (threads_of R) (16 * n + i) (start_at R b deeper n s0 h i) (reverse s1 ++ []) q s ⊎ EndedIn (threads_of R) n s0 (reverse u ++ fork_of R b deeper n m ∷ h) q
            → SomeTraces b n i (Acts.beside a rest) (u ++ by q w answer ∷ [])
        in_part (inr e) = absurd (next_not_ended (threads_of R) (one_way R) n s0 (reverse u ++ fork_of R b deeper n m ∷ h) q s w there e)
        in_part (inl starts) =
            let part = next_part (threads_of R) (one_way R) (born R) n (16 * n + i) s0 (start_at R b deeper n s0 h i) (fork_of R b deeper n m ∷ h) begun.0 begun.1
            (reverse u ++ fork_of R b deeper n m ∷ h) (reverse t ++ fork_of R b deeper n m ∷ h) (reverse s1 ++ []) (join_of R b deeper n s0 h m i f low high rest s1 t u r all next shuffle first others) first.few q s w starts there in
            from_branch part (in_branch part)

        go : (q ≡ n) ⊎ IsBeyond n 1 q → SomeTraces b n i (Acts.beside a rest) (u ++ by q w answer ∷ [])
        go (inl same) = absurd (differs same)
        go (inr beyond) = by_place (cases_eq i beyond.at)
          where
            by_place : (i ≡ beyond.at) ⊎ (i ≡ beyond.at → ⊥) → SomeTraces b n i (Acts.beside a rest) (u ++ by q w answer ∷ [])
            by_place (inl same) =
                in_part (part_or_over R b deeper n s0 h m i f low high rest s1 t u r all next shuffle first others q s (subst (λ z. Below (16 * n + z) q) (sym same) beyond.below) there.begins)
            by_place (inr other) =
                let beside = next_rest (threads_of R) (one_way R) (born R) n (16 * n + i) s0 (start_at R b deeper n s0 h i) (fork_of R b deeper n m ∷ h) begun.0 begun.1
                (reverse u ++ fork_of R b deeper n m ∷ h) (reverse t ++ fork_of R b deeper n m ∷ h) (reverse s1 ++ []) (join_of R b deeper n s0 h m i f low high rest s1 t u r all next shuffle first others)
                (few_branches (threads_of R) (reverse t ++ fork_of R b deeper n m ∷ h) others.few) q s w
                (below_siblings n i beyond.at (16 * n + i) q other low few_i beyond.from beyond.few (itself (16 * n + i) refl) beyond.below) there in
                others_longer n i a rest s1 t u r (by q w answer) shuffle trace
                (in_others beside (never_before R b deeper n s0 h m i f low high rest s1 t u r all next shuffle first others beyond.at q other beyond.from beyond.few beyond.below never))

  mutual
    pub long_by : (n : ℕ) (s0 : List Heard) (h : List Stamp) (k : Kind) (a : Act k) (next : Result k → Reads A) (u : List Stamp) (r : Option (Result k)) (q : ℕ) (s : List Heard) (w : Event) (answer : SrcAnswer)
        → Place R n s0 h → Here R b deeper n s0 h k a next → Trace b n k a u r → Next n s0 (reverse u ++ h) q s w → is_fit w answer ≡ true → Longer n k a u q (by q w answer)
    long_by n s0 h k a next u r q s w answer p here (Trace.cut_first _ _ _) is fits = long_first n s0 h k a next q s w answer p here is fits
    long_by n s0 h k a next u r q s w answer p here (Trace.cut_last _ _ _ _ y trace) is fits = long_done n s0 h k a next u y q s w (by q w answer) p here trace is
    long_by n s0 h k a next u r q s w answer p here (Trace.gives _ _ y) is fits = long_first n s0 h k a next q s w answer p here is fits
    long_by n s0 h k a next u r q s w answer p here (Trace.does _ _ e kind x y result) is fits = long_done n s0 h k a next u y q s w (by q w answer) p here (Trace.does n k e kind x y result) is
    long_by n s0 h k a next u r q s w answer p here (Trace.stops _ _ e last) is fits =
        let place = own_step R n s0 h e SrcAnswer.Unit p (want_at R b deeper n s0 h k a next e here refl) (last_forks_none e last) in
        absurd (wants_off w (sym (ap wanted (stopped R b deeper n s0 h k e last next here)) ∙ want_is n s0 (by n e SrcAnswer.Unit ∷ h) q s w place is))
    long_by n s0 h k a next u r q s w answer p here (Trace.then _ j _ first g s1 t _ y _ left right split) is fits =
        let went_there = went R b deeper n s0 h j first (following R b deeper j k g next) s1 (Some y) p (here_first R b deeper n s0 h j k first g next here) left in
        long_then n j k first g s1 t u y q (by q w answer) left split
        (long_by n s0 (reverse s1 ++ h) k (g y) next t r q s w answer (went_there.place y refl) (here_second R b deeper n s0 s1 (reverse s1 ++ h) j k g next y went_there) right
        (subst (λ z. Next n s0 z q s w) (rev_both s1 t h) (subst (λ z. Next n s0 (reverse z ++ h) q s w) split is)) fits)
    long_by n s0 h k a next u r q s w answer p here (Trace.then_cut _ j _ first g _ left) is fits =
        long_cut n s0 h j k first g next u q s w answer p here is fits
        (long_by n s0 h j first (following R b deeper j k g next) u None q s w answer p (here_first R b deeper n s0 h j k first g next here) left is fits)
    long_by n s0 h k a next u r q s w answer p here (Trace.calls _ f m vs s1 _ trace) is fits =
        let call = by n (Event.Call f) (SrcAnswer.Frame m) in
        let want = want_at R b deeper n s0 h k a next (Event.Call f) here refl in
        called n f m vs s1 q (by q w answer)
        (long_by n s0 (call ∷ h) k (b f m vs) next s1 r q s w answer (own_step R n s0 h (Event.Call f) (SrcAnswer.Frame m) p want refl) (here_body R b deeper n s0 h f m vs next here) trace
        (subst (λ z. Next n s0 z q s w) (rev_cons call s1 h) is) fits)
    long_by n s0 h k a next u r q s w answer p here (Trace.loops _ test inner step s1 _ trace) is fits =
        let turned = by n Event.Turn SrcAnswer.Unit in
        let want = want_at R b deeper n s0 h k a next Event.Turn here refl in
        looped n test inner step s1 q (by q w answer)
        (long_by n s0 (turned ∷ h) k (turn test inner step) next s1 r q s w answer (own_step R n s0 h Event.Turn SrcAnswer.Unit p want refl) (here_turn R b deeper n s0 h test inner step next here) trace
        (subst (λ z. Next n s0 z q s w) (rev_cons turned s1 h) is) fits)
    long_by n s0 h k a next u r q s w answer p here (Trace.forks _ branches s1 all few shallow traces) is fits =
        let f : AtFork R b deeper n s0 h (count branches) = record { place = p; want = want_fork R b deeper n s0 h branches next few here; few = few } in
        let ready = ready_here R b deeper n s0 h branches next few here in
        let there = subst (λ z. Next n s0 z q s w) (rev_cons (fork_of R b deeper n (count branches)) s1 h) is in
        at_fork n s0 h branches next s1 all q s w answer f few shallow ready traces there
        (λ differs. long_all n s0 h (count branches) 1 branches next s1 all q s w answer f (omega arith) (omega arith) (not_deep R b deeper n branches shallow) ready traces there fits differs
        (λ j low less. absurd (omega (arith, low, less))))
    long_by n s0 h k a next u r q s w answer p here (Trace.forks_deep _ branches few deep) is fits =
        deep_longer n s0 h branches next q s w (by q w answer) (record { place = p; want = want_fork R b deeper n s0 h branches next few here; few = few }) few deep is

    long_all : (n : ℕ) (s0 : List Heard) (h : List Stamp) (m i : ℕ) (rest : Acts) (next : End → Reads A) (u : List Stamp) (all : Bool) (q : ℕ) (s : List Heard) (w : Event) (answer : SrcAnswer)
        → AtFork R b deeper n s0 h m → 0 < i → i + count rest ≡ suc m → (0 < count rest → suc (depth_of n) ≤ 14) → AreReady R b deeper (now_heard R n s0 h) next i rest → Traces b n i rest u all
        → Next n s0 (reverse u ++ fork_of R b deeper n m ∷ h) q s w → is_fit w answer ≡ true → (q ≡ n → ⊥) → ((j : ℕ) → 0 < j → j < i → Below (16 * n + j) q → ⊥)
        → SomeTraces b n i rest (u ++ by q w answer ∷ [])
    long_all n s0 h m i rest next u all q s w answer f low is shallow ready (Traces.no_more _ _) there fits differs never = absurd (never_next n s0 h m i q s w f (omega (arith, is)) there differs never)
    long_all n s0 h m i (Acts.beside _ _) next u all q s w answer f low is shallow (one_ready _ _ _ first others) (Traces.beside _ _ a rest s1 t _ r all2 trace more shuffle) there fits differs never =
        let few = f.few in
        let high : i ≤ m = omega (arith, is) in
        let q0 = 16 * n + i in
        let si = start_at R b deeper n s0 h i in
        let place = branch_place R b deeper n s0 h m i f low high (shallow (omega arith)) in
        let here = branch_here R b deeper n s0 h i a next low (omega (arith, high, few)) first in
        let w1 = went R b deeper q0 si [] an_end a (branch_next R b deeper next) s1 r place here trace in
        let w2 = went_all R b deeper n s0 h m (suc i) rest next t all2 f (omega arith) (omega (arith, is)) (λ some. shallow (omega arith)) others more in
        by_branch n s0 h m i f low high rest s1 t u r all2 next shuffle w1 w2 a q s w answer trace more there differs never
        (λ part. long_by q0 si [] an_end a (branch_next R b deeper next) s1 r q s w answer place here trace part fits)
        place here
        (λ beside away. long_all n s0 h m (suc i) rest next t all2 q s w answer f (omega arith) (omega (arith, is)) (λ some. shallow (omega arith)) others more beside fits differs away)
