-- Along a trace each event is by a thread that is next, as the reader tells; and where the trace has come to its result, its thread goes on.
use Rattle.std.proofs.Common.{◌≡◌, ℕ, suc, ◌+◌, ◌*◌, ◌/◌, ◌%◌, ◌≤◌, ◌<◌, Bool, true, false, ◌&&◌, List, [], ◌∷◌, ◌++◌, length, reverse, refl, sym, ap, ◌∙◌, subst, ◌⊎◌, inl, inr, Option, Some, None, arith}
use Rattle.std.proofs.lemmas.Bool.{le-leb, leb-false, cases_eq}
use Rattle.std.proofs.lemmas.List.{append_assoc, append-nil}
use Rattle.dfi_base.specs.Names.{Below, IsApart, depth_of}
use Rattle.dfi_base.specs.Names.Below.{itself, branch as branch_of}
use Rattle.dfi_base.specs.Lives.{is_start_of, own, BeginsIn, EndedIn, branches_after}
use Rattle.dfi_base.specs.Lives.EndedIn.{ended as has_ended}
use Rattle.dfi_base.specs.Grown.{IsGrown, AreFew}
use Rattle.dfi_base.specs.Joined.{IsJoined}
use Rattle.dfi_base.specs.Joined.IsJoined.{forked}
use Rattle.dfi_base.proofs.Names.{branch_below, below_below, low_below, below_siblings}
use Rattle.dfi_base.proofs.Entries.{own_mine, own_other, starts_branch, not_started, begun_same, begun_below, ended_same, first_begins, few_branches}
use Rattle.dfi_base.proofs.Growing.{branch_begins}
use Rattle.dfi_base.proofs.Joining.{join, few_joined, ended_child, ended_beside}
use Rattle.obj_mem.specs.declared.Maker.{Maker}
use Rattle.obj_mem.specs.declared.value.Value.{Value}
use Rattle.obj_mem.specs.declared.event.Event.{Event}
use Rattle.obj_mem.specs.declared.event.SrcAnswer.{SrcAnswer}
use Rattle.obj_mem.specs.declared.event.Stamp.{Stamp}
use Rattle.src_law.specs.Acts.{End, done, Kind, a_value, an_end, Result, Act, Acts, count}
use Rattle.src_law.specs.Shuffles.{IsShuffle}
use Rattle.src_law.specs.Traces.{Trace, Traces, by, joined, is_done, is_deep, turn}
use Rattle.src_law.specs.tools.Heard.{Heard, answer, branch, Res, wants, Reads, bind, asks, unit_of, got_by, off}
use Rattle.src_law.specs.tools.Reader.{reads, parted, branch_by, to_end, calls_at, turns_at}
use Rattle.src_law.specs.tools.Threads.{heard, at, wanted, is_settled, begins_by, threads_of}
use Rattle.src_law.proofs.Depths.{depth_forked}
use Rattle.src_law.proofs.Fuel.{Bodies, same_reads, same_branches, bind_same, bind_bind, most_reads}
use Rattle.src_law.proofs.First.{last_forks_none, kind_forks_none}
use Rattle.src_law.proofs.Stamps.{rev_cons, rev_both, AreBelow, none_below, one_below, below_both, AreBeyond, none_beyond, one_beyond, IsBeyond, beyond_shuffle, joined_by, below_branch, not_both}
use Rattle.src_law.proofs.Parting.{begun_part, begun_beside}
use Rattle.src_law.proofs.Places.{IsPast, Fits, AnyFits, one_way, born, Place, now_heard, at_place, heard_more, own_grown, own_few, own_step, still_lives}

-- a branch is one deeper than its parent
abbrev pub BranchIsDeeper : Type 0
BranchIsDeeper = (n i : ℕ) → Below 1 n → depth_of n ≤ 14 → 0 < i → i ≤ 15 → depth_of (16 * n + i) ≡ suc (depth_of n)

module _ {A : Type 0} (R : Reads A) (b : Bodies) (deeper : BranchIsDeeper) where
  -- thread n is at a part, and what follows it is this
  pub record Here (n : ℕ) (s0 : List Heard) (h : List Stamp) (k : Kind) (a : Act k) (next : Result k → Reads A) : Type 0 where
    pub reads_on : (l : List Heard) → IsPast l → (f : ℕ) → length l ≤ f → R (now_heard R n s0 h ++ l) ≡ bind (reads b f k a l) next

  -- it has gone along a trace of the part, up to this history
  pub record Went (n : ℕ) (s0 : List Heard) (u h : List Stamp) (k : Kind) (next : Result k → Reads A) (r : Option (Result k)) : Type 0 where
    pub below : AreBelow n u
    pub grown : IsGrown (threads_of R) AnyFits n s0 h
    pub few : AreFew (threads_of R) h
    pub place : (x : Result k) → r ≡ Some x → Place R n s0 h
    pub on : (x : Result k) → r ≡ Some x → (l : List Heard) → IsPast l → R (now_heard R n s0 h ++ l) ≡ next x l

  -- the same up to a history that is the same
  went_to : (n : ℕ) (s0 : List Heard) (u g h : List Stamp) (k : Kind) (next : Result k → Reads A) (r : Option (Result k)) → g ≡ h → Went n s0 u g k next r → Went n s0 u h k next r
  went_to n s0 u g h k next r same went = subst (λ z. Went n s0 u z k next r) same went

  some_is : {B : Type 0} (x y : B) → Some x ≡ Some y → x ≡ y
  some_is x y same = cc

  none_is_some : {B : Type 0} (y : B) → None ≡ Some y → ⊥
  none_is_some y same = cc

  -- a trace that is cut
  cut_there : (n : ℕ) (s0 : List Heard) (u h : List Stamp) (k : Kind) (next : Result k → Reads A) → AreBelow n u → IsGrown (threads_of R) AnyFits n s0 h → AreFew (threads_of R) h → Went n s0 u h k next None
  cut_there n s0 u h k next below grown few = record { below = below; grown = grown; few = few; place = λ x is. absurd (none_is_some x is); on = λ x is. absurd (none_is_some x is) }

  -- what a part wants at first, its thread wants
  pub want_at : (n : ℕ) (s0 : List Heard) (h : List Stamp) (k : Kind) (a : Act k) (next : Result k → Reads A) (e : Event) → Here n s0 h k a next → reads b 0 k a [] ≡ wants e
      → wanted (R (now_heard R n s0 h)) ≡ Some e
  want_at n s0 h k a next e here is =
      ap (λ z. wanted (R z)) (sym (append-nil (now_heard R n s0 h))) ∙ (ap wanted (here.reads_on [] tt 0 (omega arith)) ∙ ap (λ r. wanted (bind r next)) is)

  -- behind one event of its own
  pub after_event : (n : ℕ) (s0 : List Heard) (h : List Stamp) (k : Kind) (a : Act k) (next : Result k → Reads A) (e : Event) (x : SrcAnswer) → Here n s0 h k a next
      → (l : List Heard) (f : ℕ) → suc (length l) ≤ f → R (now_heard R n s0 (by n e x ∷ h) ++ l) ≡ bind (reads b f k a (answer x ∷ l)) next
  after_event n s0 h k a next e x here l f more = ap R (heard_more R n s0 h e x l) ∙ here.reads_on (answer x ∷ l) tt f more

  -- Parts in a row.

  abbrev pub following : (j k : Kind) → (Result j → Act k) → (Result k → Reads A) → Result j → Reads A
  following j k g next x l = bind (reads b (length l) k (g x) l) next

  pub here_first : (n : ℕ) (s0 : List Heard) (h : List Stamp) (j k : Kind) (a : Act j) (g : Result j → Act k) (next : Result k → Reads A) → Here n s0 h k (Act.then a g) next
      → Here n s0 h j a (following j k g next)
  here_first n s0 h j k a g next here = record {
    reads_on = λ l past f more.
        here.reads_on l past f more
        ∙ (bind_bind (reads b f j a l) (λ x. reads b f k (g x)) next
        ∙ bind_same (length l) (reads b f j a l) (λ x m. bind (reads b f k (g x) m) next) (following j k g next) (most_reads b f j a l)
        (λ x m less. ap (λ r. bind r next) (same_reads b f (length m) k (g x) m (omega (arith, less, more)) (omega arith))));
  }

  pub here_second : (n : ℕ) (s0 : List Heard) (u h : List Stamp) (j k : Kind) (g : Result j → Act k) (next : Result k → Reads A) (x : Result j) → Went n s0 u h j (following j k g next) (Some x)
      → Here n s0 h k (g x) next
  here_second n s0 u h j k g next x went = record {
    reads_on = λ l past f more. went.on x refl l past ∙ ap (λ r. bind r next) (same_reads b (length l) f k (g x) l (omega arith) more);
  }

  -- The body of a call, and a turn.

  pub here_body : (n : ℕ) (s0 : List Heard) (h : List Stamp) (f : ℕ) (m : Maker) (vs : List Value) (next : Value → Reads A) → Here n s0 h a_value (Act.calls f vs) next
      → Here n s0 (by n (Event.Call f) (SrcAnswer.Frame m) ∷ h) a_value (b f m vs) next
  unfolding calls_at turns_at
  here_body n s0 h f m vs next here = record { reads_on = λ l past g more. after_event n s0 h a_value (Act.calls f vs) next (Event.Call f) (SrcAnswer.Frame m) here l (suc g) (omega (arith, more)) }

  pub here_turn : (n : ℕ) (s0 : List Heard) (h : List Stamp) (test : Act Kind.a_truth) (inner step : Act an_end) (next : End → Reads A) → Here n s0 h an_end (Act.loops test inner step) next
      → Here n s0 (by n Event.Turn SrcAnswer.Unit ∷ h) an_end (turn test inner step) next
  unfolding calls_at turns_at
  here_turn n s0 h test inner step next here = record { reads_on = λ l past g more. after_event n s0 h an_end (Act.loops test inner step) next Event.Turn SrcAnswer.Unit here l (suc g) (omega (arith, more)) }

  -- At a fork.

  pub record AtFork (n : ℕ) (s0 : List Heard) (h : List Stamp) (m : ℕ) : Type 0 where
    pub place : Place R n s0 h
    pub want : wanted (R (now_heard R n s0 h)) ≡ Some (Event.Fork m)
    pub few : m ≤ 15

  abbrev pub fork_of : ℕ → ℕ → Stamp
  fork_of n m = by n (Event.Fork m) SrcAnswer.Unit

  abbrev pub start_at : ℕ → List Heard → List Stamp → ℕ → List Heard
  start_at n s0 h i = begins_by s0 (own (threads_of R) n h) ((16 * n + i) % 16)

  pub tail_grown : (n : ℕ) (s0 : List Heard) (h : List Stamp) (m : ℕ) → AtFork n s0 h m → IsGrown (threads_of R) AnyFits n s0 (fork_of n m ∷ h)
  tail_grown n s0 h m f = own_grown R n s0 h (Event.Fork m) SrcAnswer.Unit f.place f.want

  pub tail_few : (n : ℕ) (s0 : List Heard) (h : List Stamp) (m : ℕ) → AtFork n s0 h m → AreFew (threads_of R) (fork_of n m ∷ h)
  tail_few n s0 h m f = own_few R n s0 h (Event.Fork m) SrcAnswer.Unit f.place f.few

  -- a branch of the fork has begun
  pub begun_there : (n : ℕ) (s0 : List Heard) (h : List Stamp) (m i : ℕ) → AtFork n s0 h m → 0 < i → i ≤ m
      → BeginsIn (threads_of R) n s0 (fork_of n m ∷ h) (16 * n + i) (start_at n s0 h i) × (own (threads_of R) (16 * n + i) (fork_of n m ∷ h) ≡ [])
  begun_there n s0 h m i f low high =
      let few = f.few in
      branch_begins (threads_of R) AnyFits n s0 h (fork_of n m) (16 * n + i) (start_at n s0 h i) f.place.grown
      (starts_branch (threads_of R) n i (fork_of n m) refl low high (omega (arith, high, few))) (omega (arith, high, few)) refl

  -- who lived before and is not started has ended
  pub tail_over : (n : ℕ) (s0 : List Heard) (h : List Stamp) (m q : ℕ) (s : List Heard) → AtFork n s0 h m → is_start_of (threads_of R) q (fork_of n m) ≡ false
      → BeginsIn (threads_of R) n s0 (fork_of n m ∷ h) q s → (q ≡ n → ⊥) → EndedIn (threads_of R) n s0 (fork_of n m ∷ h) q
  tail_over n s0 h m q s f idle b differs =
      ended_same (threads_of R) n s0 (fork_of n m) h (still_lives R n s0 h (Event.Fork m) f.place f.want) (few_branches (threads_of R) h f.place.few) q idle
      (f.place.all_over q s (begun_same (threads_of R) n s0 (fork_of n m) h q s idle b) differs)

  -- so have those below a branch that began before it
  pub tail_stale : (n : ℕ) (s0 : List Heard) (h : List Stamp) (m i : ℕ) → AtFork n s0 h m → 0 < i → i ≤ 15 → (q : ℕ) (s : List Heard) → BeginsIn (threads_of R) n s0 (fork_of n m ∷ h) q s
      → Below (16 * n + i) q → (q ≡ 16 * n + i → ⊥) → EndedIn (threads_of R) n s0 (fork_of n m ∷ h) q
  tail_stale n s0 h m i f low few q s b below differs =
      let above = low_below (16 * n + i) q below in
      tail_over n s0 h m q s f (not_started (threads_of R) q (fork_of n m) (λ st. strictly q below differs st.parent)) b (λ same. omega (arith, same, above, low))
    where
      strictly : (j : ℕ) → Below (16 * n + i) j → (j ≡ 16 * n + i → ⊥) → n ≡ j / 16 → ⊥
      strictly j (itself k same) other up = other same
      strictly j (branch_of k some rest) other up = (let low_one = low_below (16 * n + i) (k / 16) rest in omega (arith, low_one, up, low))

  -- where a branch stands at first
  pub branch_place : (n : ℕ) (s0 : List Heard) (h : List Stamp) (m i : ℕ) → AtFork n s0 h m → 0 < i → i ≤ m → suc (depth_of n) ≤ 14 → Place R (16 * n + i) (start_at n s0 h i) []
  unfolding IsGrown AreFew BeginsIn own
  branch_place n s0 h m i f low high shallow =
      let few = f.few in
      let depth_there = deeper n i f.place.known (omega (arith, shallow)) low (omega (arith, high, few)) in
      let begun = depth_forked s0 (own (threads_of R) n h) ((16 * n + i) % 16) in
      let before = f.place.depth_is in
      record {
        known = below_below 1 n (16 * n + i) f.place.known (branch_below n i low (omega (arith, high, few)));
        depth_is = omega (arith, begun, before, depth_there);
        shallow = omega (arith, depth_there, shallow);
        grown = tt;
        few = tt;
        all_over = λ q s b differs. absurd (differs b.0);
        joined = λ x from to. absurd (omega (arith, from, to));
      }

  -- Branches that are ready: what each does follows what was heard up to the fork.

  abbrev pub branch_next : (End → Reads A) → End → Reads A
  branch_next next x l = bind (to_end x l) next

  pub data AreReady (p : List Heard) (next : End → Reads A) : ℕ → Acts → Type 0 where
    none_ready : (i : ℕ) → AreReady p next i Acts.no_more
    one_ready : (i : ℕ) (a : Act an_end) (rest : Acts)
        → ((l : List Heard) (f : ℕ) → length l ≤ f → R (p ++ answer SrcAnswer.Unit ∷ branch i ∷ l) ≡ bind (reads b f an_end a l) (branch_next next)) → AreReady p next (suc i) rest
        → AreReady p next i (Acts.beside a rest)

  abbrev ReadyBy : List Heard → (End → Reads A) → ℕ → Acts → Type 0
  ReadyBy p next i rest = (m j : ℕ) → m ≡ i + j → (l : List Heard) (f : ℕ) → length l ≤ f
      → R (p ++ answer SrcAnswer.Unit ∷ branch m ∷ l) ≡ bind (branch_by (calls_at b f) (turns_at b f) rest (suc j) l) next

  ready_all : (p : List Heard) (next : End → Reads A) (i : ℕ) (rest : Acts) → ReadyBy p next i rest → AreReady p next i rest
  ready_all p next i Acts.no_more all = none_ready i
  ready_all p next i (Acts.beside a rest) all =
      one_ready i a rest (λ l f more. all i 0 (omega arith) l f more ∙ bind_bind (reads b f an_end a l) to_end next)
      (ready_all p next (suc i) rest (λ m j is l f more. all m (suc j) (omega (arith, is)) l f more))

  abbrev ForkReads : ℕ → Acts → List Heard → Bool → Res End
  ForkReads f branches l few = elim few [ true ↦ bind (bind (asks (Event.Fork (count branches)) l) unit_of) (λ u. parted (branch_by (calls_at b f) (turns_at b f) branches)) | false ↦ off ]

  pub ready_here : (n : ℕ) (s0 : List Heard) (h : List Stamp) (branches : Acts) (next : End → Reads A) → count branches ≤ 15 → Here n s0 h an_end (Act.forks branches) next
      → AreReady (now_heard R n s0 h) next 1 branches
  ready_here n s0 h branches next few here = ready_all (now_heard R n s0 h) next 1 branches (λ m j is l f more. go m j is l f more)
    where
      go : ReadyBy (now_heard R n s0 h) next 1 branches
      go m j is l f more =
          let number : m ≡ suc j = omega (arith, is) in
          here.reads_on (answer SrcAnswer.Unit ∷ branch m ∷ l) tt (suc (suc f)) (omega (arith, more))
          ∙ (ap (λ z. bind (ForkReads (suc (suc f)) branches (answer SrcAnswer.Unit ∷ branch m ∷ l) z) next) (le-leb (count branches) 15 few)
          ∙ (ap (λ z. bind (branch_by (calls_at b (suc (suc f))) (turns_at b (suc (suc f))) branches z l) next) number
          ∙ ap (λ r. bind r next) (same_branches b (suc (suc f)) f branches (suc j) l (omega (arith, more)) more)))

  -- behind the join
  pub past_fork : (n : ℕ) (s0 : List Heard) (h : List Stamp) (branches : Acts) (next : End → Reads A) → count branches ≤ 15 → Here n s0 h an_end (Act.forks branches) next
      → (l : List Heard) → IsPast l → R (now_heard R n s0 (fork_of n (count branches) ∷ h) ++ l) ≡ next done l
  past_fork n s0 h branches next few here l past =
      after_event n s0 h an_end (Act.forks branches) next (Event.Fork (count branches)) SrcAnswer.Unit here l (suc (length l)) (omega arith)
      ∙ (ap (λ z. bind (ForkReads (suc (length l)) branches (answer SrcAnswer.Unit ∷ l) z) next) (le-leb (count branches) 15 few) ∙ by_past l past)
    where
      by_past : (m : List Heard) → IsPast m → bind (parted (branch_by (calls_at b (suc (length l))) (turns_at b (suc (length l))) branches) m) next ≡ next done m
      by_past [] past = refl
      by_past (answer a ∷ m) past = refl
      by_past (branch i ∷ m) past = absurd past

  pub want_fork : (n : ℕ) (s0 : List Heard) (h : List Stamp) (branches : Acts) (next : End → Reads A) → count branches ≤ 15 → Here n s0 h an_end (Act.forks branches) next
      → wanted (R (now_heard R n s0 h)) ≡ Some (Event.Fork (count branches))
  want_fork n s0 h branches next few here =
      want_at n s0 h an_end (Act.forks branches) next (Event.Fork (count branches)) here (ap (ForkReads 0 branches []) (le-leb (count branches) 15 few))

  pub branch_here : (n : ℕ) (s0 : List Heard) (h : List Stamp) (i : ℕ) (a : Act an_end) (next : End → Reads A) → 0 < i → i ≤ 15
      → ((l : List Heard) (f : ℕ) → length l ≤ f → R (now_heard R n s0 h ++ answer SrcAnswer.Unit ∷ branch i ∷ l) ≡ bind (reads b f an_end a l) (branch_next next))
      → Here (16 * n + i) (start_at n s0 h i) [] an_end a (branch_next next)
  unfolding own
  branch_here n s0 h i a next low few ready = record {
    reads_on = λ l past f more.
        (let number : (16 * n + i) % 16 ≡ i = omega (arith, few) in
        ap (λ z. R (z ++ l)) (append-nil (start_at n s0 h i))
        ∙ (ap R (append_assoc (now_heard R n s0 h) (answer SrcAnswer.Unit ∷ branch ((16 * n + i) % 16) ∷ []) l)
        ∙ (ap (λ j. R (now_heard R n s0 h ++ answer SrcAnswer.Unit ∷ branch j ∷ l)) number ∙ ready l f more)));
  }

  -- The branches from one on have gone along their traces.

  pub record WentAll (n : ℕ) (s0 : List Heard) (i : ℕ) (rest : Acts) (u h : List Stamp) (all : Bool) : Type 0 where
    pub beyond : AreBeyond n i u
    pub grown : IsGrown (threads_of R) AnyFits n s0 h
    pub few : AreFew (threads_of R) h
    pub ended : all ≡ true → (j : ℕ) → i ≤ j → j < i + count rest → EndedIn (threads_of R) n s0 h (16 * n + j)
    pub all_over : all ≡ true → (q : ℕ) (s : List Heard) → BeginsIn (threads_of R) n s0 h q s → (q ≡ n → ⊥) → ((j : ℕ) → 0 < j → j < i → Below (16 * n + j) q → ⊥)
        → EndedIn (threads_of R) n s0 h q

  none_went : (n : ℕ) (s0 : List Heard) (h : List Stamp) (m i : ℕ) → AtFork n s0 h m → i ≡ suc m → WentAll n s0 i Acts.no_more [] (fork_of n m ∷ h) true
  none_went n s0 h m i f is = record {
    beyond = none_beyond;
    grown = tail_grown n s0 h m f;
    few = tail_few n s0 h m f;
    ended = λ all j low high. absurd (omega (arith, low, high));
    all_over = λ all q s begins differs never.
        tail_over n s0 h m q s f
        (not_started (threads_of R) q (fork_of n m) (λ st. never (q % 16) st.from (omega (arith, st.to, is)) (itself q (omega (arith, st.parent))))) begins differs;
  }

  both_are : (r : Option End) (all : Bool) → (is_done r && all) ≡ true → (r ≡ Some done) × (all ≡ true)
  both_are None all is = cc
  both_are (Some done) all is = (refl, is)
  both_are (Some End.Broken) all is = cc
  both_are (Some End.Again) all is = cc
  both_are (Some (End.Returned v)) all is = cc

  -- a branch that has come to its end
  pub branch_over : (n i : ℕ) (si : List Heard) (s h : List Stamp) (next : End → Reads A) (r : Option End) → Went (16 * n + i) si s h an_end (branch_next next) r → r ≡ Some done
      → EndedIn (threads_of R) (16 * n + i) si h (16 * n + i)
  branch_over n i si s h next r went is =
      let p = went.place done is in
      has_ended (16 * n + i) si (first_begins (threads_of R) (16 * n + i) si AnyFits h p.grown)
      (ap is_settled (at_place R (16 * n + i) si h p) ∙ (ap (λ l. is_settled (R l)) (sym (append-nil (now_heard R (16 * n + i) si h))) ∙ ap is_settled (went.on done is [] tt))) p.joined

  module _ (n : ℕ) (s0 : List Heard) (h : List Stamp) (m i : ℕ) (f : AtFork n s0 h m) (low : 0 < i) (high : i ≤ m) (rest : Acts) (s t u : List Stamp) (r : Option End) (all : Bool) (next : End → Reads A)
      (shuffle : IsShuffle s t u) (first : Went (16 * n + i) (start_at n s0 h i) s (reverse s ++ []) an_end (branch_next next) r) (others : WentAll n s0 (suc i) rest t (reverse t ++ fork_of n m ∷ h) all) where
    abbrev tail : List Stamp
    tail = fork_of n m ∷ h

    abbrev q0 : ℕ
    q0 = 16 * n + i

    abbrev si : List Heard
    si = start_at n s0 h i

    pub i_few : i ≤ 15
    i_few = (let few = f.few in omega (arith, high, few))

    pub begun : BeginsIn (threads_of R) n s0 tail q0 si
    begun = (begun_there n s0 h m i f low high).0

    pub begun_none : own (threads_of R) q0 tail ≡ []
    begun_none = (begun_there n s0 h m i f low high).1

    pub join_of : IsJoined (threads_of R) q0 tail (reverse u ++ tail) (reverse t ++ tail) (reverse s ++ [])
    join_of = joined_by (threads_of R) (λ x. refl) n i tail tail tail [] s t u low i_few shuffle first.below others.beyond forked

    pub whole_grown : IsGrown (threads_of R) AnyFits n s0 (reverse u ++ tail)
    whole_grown = join (threads_of R) n q0 s0 si tail begun begun_none Fits (reverse u ++ tail) (reverse t ++ tail) (reverse s ++ []) join_of others.few others.grown first.grown

    pub whole_few : AreFew (threads_of R) (reverse u ++ tail)
    whole_few = few_joined (threads_of R) q0 tail (reverse u ++ tail) (reverse t ++ tail) (reverse s ++ []) join_of others.few first.few

    -- who is not below the branch stays ended
    keep_beside : (q : ℕ) → IsApart q0 q → EndedIn (threads_of R) n s0 (reverse t ++ tail) q → EndedIn (threads_of R) n s0 (reverse u ++ tail) q
    keep_beside q apart e =
        ended_beside (threads_of R) n q0 s0 si tail begun begun_none (reverse u ++ tail) (reverse t ++ tail) (reverse s ++ []) join_of (few_branches (threads_of R) (reverse t ++ tail) others.few) q apart e

    keep_child : (q : ℕ) → EndedIn (threads_of R) q0 si (reverse s ++ []) q → EndedIn (threads_of R) n s0 (reverse u ++ tail) q
    keep_child q e = ended_child (threads_of R) n q0 s0 si tail begun begun_none (reverse u ++ tail) (reverse t ++ tail) (reverse s ++ []) join_of q e

    pub apart_of : (j q : ℕ) → (i ≡ j → ⊥) → 0 < j → j ≤ 15 → Below (16 * n + j) q → IsApart q0 q
    apart_of j q differs from few b = below_siblings n i j q0 q differs low i_few from few (itself q0 refl) b

    ended_one : r ≡ Some done → all ≡ true → (j : ℕ) → i ≤ j → j < i + suc (count rest) → j ≤ 15 → (i ≡ j) ⊎ (i ≡ j → ⊥) → EndedIn (threads_of R) n s0 (reverse u ++ tail) (16 * n + j)
    ended_one is every j from to few (inl same) = subst (λ x. EndedIn (threads_of R) n s0 (reverse u ++ tail) (16 * n + x)) same (keep_child q0 (branch_over n i si s (reverse s ++ []) next r first is))
    ended_one is every j from to few (inr differs) =
        keep_beside (16 * n + j) (apart_of j (16 * n + j) differs (omega (arith, from, low)) few (itself (16 * n + j) refl)) (others.ended every j (omega (arith, from, differs)) (omega (arith, to)))

    -- what began below the branch
    pub part_or_over : (q : ℕ) (x : List Heard) → Below q0 q → BeginsIn (threads_of R) n s0 (reverse u ++ tail) q x
        → BeginsIn (threads_of R) q0 si (reverse s ++ []) q x ⊎ EndedIn (threads_of R) n s0 (reverse u ++ tail) q
    part_or_over q x below b =
        begun_part (threads_of R) (one_way R) (born R) n q0 s0 si tail begun begun_none AnyFits (tail_stale n s0 h m i f low i_few)
        (reverse u ++ tail) (reverse t ++ tail) (reverse s ++ []) join_of whole_grown whole_few q x below b

    pub rest_begun : (q : ℕ) (x : List Heard) → (Below q0 q → ⊥) → BeginsIn (threads_of R) n s0 (reverse u ++ tail) q x → BeginsIn (threads_of R) n s0 (reverse t ++ tail) q x
    rest_begun q x never b =
        begun_beside (threads_of R) (one_way R) (born R) n q0 s0 si tail begun begun_none (reverse u ++ tail) (reverse t ++ tail) (reverse s ++ []) join_of q x never b

    -- the premise on earlier branches, with this one
    pub never_before : (at q : ℕ) → (i ≡ at → ⊥) → 0 < at → at ≤ 15 → Below (16 * n + at) q → ((j : ℕ) → 0 < j → j < i → Below (16 * n + j) q → ⊥) → (j : ℕ) → 0 < j → j < suc i → Below (16 * n + j) q → ⊥
    never_before at q differs from few b never j low_j less there = by (cases_eq j i)
      where
        by : (j ≡ i) ⊎ (j ≡ i → ⊥) → ⊥
        by (inl same) = not_both n i at q differs low i_few from few (subst (λ z. Below (16 * n + z) q) same there) b
        by (inr other) = never j low_j (omega (arith, less, other)) there

    over_one : r ≡ Some done → all ≡ true → (q : ℕ) (x : List Heard) → BeginsIn (threads_of R) n s0 (reverse u ++ tail) q x → (q ≡ n → ⊥) → ((j : ℕ) → 0 < j → j < i → Below (16 * n + j) q → ⊥)
        → EndedIn (threads_of R) n s0 (reverse u ++ tail) q
    over_one is every q x b differs never = by (below_branch n q (begun_below (threads_of R) n s0 (reverse u ++ tail) q x b))
      where
        in_part : BeginsIn (threads_of R) q0 si (reverse s ++ []) q x ⊎ EndedIn (threads_of R) n s0 (reverse u ++ tail) q → EndedIn (threads_of R) n s0 (reverse u ++ tail) q
        in_part (inr e) = e
        in_part (inl there) = go (cases_eq q q0)
          where
            go : (q ≡ q0) ⊎ (q ≡ q0 → ⊥) → EndedIn (threads_of R) n s0 (reverse u ++ tail) q
            go (inl same) = subst (EndedIn (threads_of R) n s0 (reverse u ++ tail)) (sym same) (keep_child q0 (branch_over n i si s (reverse s ++ []) next r first is))
            go (inr other) = keep_child q ((first.place done is).all_over q x there other)

        by : (q ≡ n) ⊎ IsBeyond n 1 q → EndedIn (threads_of R) n s0 (reverse u ++ tail) q
        by (inl same) = absurd (differs same)
        by (inr beyond) = place (cases_eq i beyond.at)
          where
            place : (i ≡ beyond.at) ⊎ (i ≡ beyond.at → ⊥) → EndedIn (threads_of R) n s0 (reverse u ++ tail) q
            place (inl same) = in_part (part_or_over q x (subst (λ z. Below (16 * n + z) q) (sym same) beyond.below) b)
            place (inr other) =
                let never_here = not_both n i beyond.at q other low i_few beyond.from beyond.few in
                keep_beside q (apart_of beyond.at q other beyond.from beyond.few beyond.below)
                (others.all_over every q x (rest_begun q x (λ there. never_here there beyond.below) b) differs (never_before beyond.at q other beyond.from beyond.few beyond.below never))

    pub one_went : (a : Act an_end) → i + suc (count rest) ≤ 16 → WentAll n s0 i (Acts.beside a rest) u (reverse u ++ tail) (is_done r && all)
    one_went a within = record {
      beyond = beyond_shuffle n i s t u shuffle i_few first.below others.beyond;
      grown = whole_grown;
      few = whole_few;
      ended = λ is j from to. (let both = both_are r all is in ended_one both.0 both.1 j from to (omega (arith, to, within)) (cases_eq i j));
      all_over = λ is q x b differs never. (let both = both_are r all is in over_one both.0 both.1 q x b differs never);
    }

  -- Traces.

  below_of : (n : ℕ) (u : List Stamp) → AreBeyond n 1 u → AreBelow n u
  below_of n [] none_beyond = none_below
  below_of n (x ∷ u) (one_beyond _ _ p rest) = one_below x u (below_below n (16 * n + p.at) x.name.0 (branch_below n p.at p.from p.few) p.below) (below_of n u rest)

  -- what branches do is not the thread's own
  pub own_beyond : (n : ℕ) (u g : List Stamp) → AreBeyond n 1 u → own (threads_of R) n (reverse u ++ g) ≡ own (threads_of R) n g
  own_beyond n [] g none_beyond = refl
  own_beyond n (x ∷ u) g (one_beyond _ _ p rest) =
      let low = low_below (16 * n + p.at) x.name.0 p.below in
      let from = p.from in
      ap (own (threads_of R) n) (rev_cons x u g)
      ∙ (own_beyond n u (x ∷ g) rest
      ∙ own_other (threads_of R) n x g (not_started (threads_of R) n x (λ st. (let up = st.parent in omega (arith, low, from, up)))) (λ same. omega (arith, low, from, same)))

  went_behind : (n : ℕ) (s0 : List Heard) (x : Stamp) (s h : List Stamp) (k : Kind) (next : Result k → Reads A) (r : Option (Result k)) → x.name.0 ≡ n → Went n s0 s (reverse s ++ x ∷ h) k next r
      → Went n s0 (x ∷ s) (reverse (x ∷ s) ++ h) k next r
  went_behind n s0 x s h k next r name w =
      went_to n s0 (x ∷ s) (reverse s ++ x ∷ h) (reverse (x ∷ s) ++ h) k next r (sym (rev_cons x s h))
      (record { below = one_below x s (itself x.name.0 name) w.below; grown = w.grown; few = w.few; place = w.place; on = w.on })

  went_both : (n : ℕ) (s0 : List Heard) (s t u h : List Stamp) (k : Kind) (next : Result k → Reads A) (r : Option (Result k)) → u ≡ s ++ t → AreBelow n s → Went n s0 t (reverse t ++ (reverse s ++ h)) k next r
      → Went n s0 u (reverse u ++ h) k next r
  went_both n s0 s t u h k next r is below w =
      subst (λ z. Went n s0 z (reverse z ++ h) k next r) (sym is)
      (went_to n s0 (s ++ t) (reverse t ++ (reverse s ++ h)) (reverse (s ++ t) ++ h) k next r (sym (rev_both s t h))
      (record { below = below_both n s t below w.below; grown = w.grown; few = w.few; place = w.place; on = w.on }))

  joined_is : (all : Bool) (x : End) → joined all ≡ Some x → (all ≡ true) × (done ≡ x)
  joined_is true x is = (refl, some_is done x is)
  joined_is false x is = absurd (none_is_some x is)

  pub not_deep : (n : ℕ) (branches : Acts) → is_deep n branches ≡ false → 0 < count branches → suc (depth_of n) ≤ 14
  not_deep n Acts.no_more is some = absurd (omega (arith, some))
  not_deep n (Acts.beside a rest) is some = (let low = leb-false 14 (depth_of n) is in omega (arith, low))

  fork_went : (n : ℕ) (s0 : List Heard) (h : List Stamp) (branches : Acts) (next : End → Reads A) (s : List Stamp) (all : Bool) → Place R n s0 h → Here n s0 h an_end (Act.forks branches) next → count branches ≤ 15
      → WentAll n s0 1 branches s (reverse s ++ fork_of n (count branches) ∷ h) all
      → Went n s0 (fork_of n (count branches) ∷ s) (reverse (fork_of n (count branches) ∷ s) ++ h) an_end next (joined all)
  fork_went n s0 h branches next s all p here few w =
      went_behind n s0 (fork_of n (count branches)) s h an_end next (joined all) refl
      (record {
        below = below_of n s w.beyond;
        grown = w.grown;
        few = w.few;
        place = λ x is.
            (let every = (joined_is all x is).0 in
            record {
              known = p.known;
              depth_is = p.depth_is;
              shallow = p.shallow;
              grown = w.grown;
              few = w.few;
              all_over = λ q start begins differs. w.all_over every q start begins differs (λ j low less. absurd (omega (arith, low, less)));
              joined = λ i low high. (let same = ap (branches_after (threads_of R)) mine in w.ended every i low (omega (arith, high, same)));
            });
        on = λ x is l past. ap (λ o. R (heard s0 o ++ l)) (own_beyond n s (fork_of n (count branches) ∷ h) w.beyond) ∙ (past_fork n s0 h branches next few here l past ∙ ap (λ z. next z l) (joined_is all x is).1);
      })
    where
      mine : own (threads_of R) n (reverse s ++ fork_of n (count branches) ∷ h) ≡ fork_of n (count branches) ∷ own (threads_of R) n h
      mine = own_beyond n s (fork_of n (count branches) ∷ h) w.beyond ∙ own_mine (threads_of R) n (fork_of n (count branches)) h refl

  mutual
    pub went : (n : ℕ) (s0 : List Heard) (h : List Stamp) (k : Kind) (a : Act k) (next : Result k → Reads A) (u : List Stamp) (r : Option (Result k)) → Place R n s0 h → Here n s0 h k a next
        → Trace b n k a u r → Went n s0 u (reverse u ++ h) k next r
    went n s0 h k a next u r p here (Trace.cut_first _ _ _) = cut_there n s0 [] h k next none_below p.grown p.few
    went n s0 h k a next u r p here (Trace.cut_last _ _ _ _ x trace) =
        let w = went n s0 h k a next u (Some x) p here trace in
        cut_there n s0 u (reverse u ++ h) k next w.below w.grown w.few
    went n s0 h k a next u r p here (Trace.gives _ _ x) = record {
      below = none_below;
      grown = p.grown;
      few = p.few;
      place = λ y is. p;
      on = λ y is l past. here.reads_on l past (length l) (omega arith) ∙ ap (λ z. next z l) (some_is x y is);
    }
    went n s0 h k a next u r p here (Trace.does _ _ e is x y result) =
        let want = want_at n s0 h k a next e here refl in
        let after = own_step R n s0 h e x p want (kind_forks_none k e is) in
        record {
          below = one_below (by n e x) [] (itself n refl) none_below;
          grown = after.grown;
          few = after.few;
          place = λ z same. after;
          on = λ z same l past.
              after_event n s0 h k a next e x here l (suc (length l)) (omega arith)
              ∙ (ap (λ o. bind (got_by o l) next) result ∙ ap (λ v. next v l) (some_is y z same));
        }
    went n s0 h k a next u r p here (Trace.stops _ _ e last) =
        let want = want_at n s0 h k a next e here refl in
        cut_there n s0 (by n e SrcAnswer.Unit ∷ []) (by n e SrcAnswer.Unit ∷ h) k next (one_below (by n e SrcAnswer.Unit) [] (itself n refl) none_below)
        (own_grown R n s0 h e SrcAnswer.Unit p want) (own_few R n s0 h e SrcAnswer.Unit p (let none = last_forks_none e last in omega (arith, none)))
    went n s0 h k a next u r p here (Trace.then _ j _ first g s t _ x _ left right is) =
        let w = went n s0 h j first (following j k g next) s (Some x) p (here_first n s0 h j k first g next here) left in
        went_both n s0 s t u h k next r is w.below
        (went n s0 (reverse s ++ h) k (g x) next t r (w.place x refl) (here_second n s0 s (reverse s ++ h) j k g next x w) right)
    went n s0 h k a next u r p here (Trace.then_cut _ j _ first g _ left) =
        let w = went n s0 h j first (following j k g next) u None p (here_first n s0 h j k first g next here) left in
        cut_there n s0 u (reverse u ++ h) k next w.below w.grown w.few
    went n s0 h k a next u r p here (Trace.calls _ f m vs s _ trace) =
        let want = want_at n s0 h k a next (Event.Call f) here refl in
        went_behind n s0 (by n (Event.Call f) (SrcAnswer.Frame m)) s h k next r refl
        (went n s0 (by n (Event.Call f) (SrcAnswer.Frame m) ∷ h) k (b f m vs) next s r (own_step R n s0 h (Event.Call f) (SrcAnswer.Frame m) p want refl) (here_body n s0 h f m vs next here) trace)
    went n s0 h k a next u r p here (Trace.loops _ test inner step s _ trace) =
        let want = want_at n s0 h k a next Event.Turn here refl in
        went_behind n s0 (by n Event.Turn SrcAnswer.Unit) s h k next r refl
        (went n s0 (by n Event.Turn SrcAnswer.Unit ∷ h) k (turn test inner step) next s r (own_step R n s0 h Event.Turn SrcAnswer.Unit p want refl) (here_turn n s0 h test inner step next here) trace)
    went n s0 h k a next u r p here (Trace.forks _ branches s all few shallow traces) =
        fork_went n s0 h branches next s all p here few
        (went_all n s0 h (count branches) 1 branches next s all (record { place = p; want = want_fork n s0 h branches next few here; few = few }) (omega arith) (omega arith) (not_deep n branches shallow)
        (ready_here n s0 h branches next few here) traces)
    went n s0 h k a next u r p here (Trace.forks_deep _ branches few deep) =
        let want = want_fork n s0 h branches next few here in
        cut_there n s0 (fork_of n (count branches) ∷ []) (fork_of n (count branches) ∷ h) k next (one_below (fork_of n (count branches)) [] (itself n refl) none_below)
        (own_grown R n s0 h (Event.Fork (count branches)) SrcAnswer.Unit p want) (own_few R n s0 h (Event.Fork (count branches)) SrcAnswer.Unit p few)

    pub went_all : (n : ℕ) (s0 : List Heard) (h : List Stamp) (m i : ℕ) (rest : Acts) (next : End → Reads A) (u : List Stamp) (all : Bool) → AtFork n s0 h m → 0 < i → i + count rest ≡ suc m
        → (0 < count rest → suc (depth_of n) ≤ 14) → AreReady (now_heard R n s0 h) next i rest → Traces b n i rest u all → WentAll n s0 i rest u (reverse u ++ fork_of n m ∷ h) all
    went_all n s0 h m i rest next u all f low is shallow ready (Traces.no_more _ _) = none_went n s0 h m i f (omega (arith, is))
    went_all n s0 h m i (Acts.beside _ _) next u all f low is shallow (one_ready _ _ _ first others) (Traces.beside _ _ a rest s t _ r all2 trace more shuffle) =
        let few = f.few in
        let high : i ≤ m = omega (arith, is) in
        one_went n s0 h m i f low high rest s t u r all2 next shuffle
        (went (16 * n + i) (start_at n s0 h i) [] an_end a (branch_next next) s r (branch_place n s0 h m i f low high (shallow (omega arith))) (branch_here n s0 h i a next low (omega (arith, high, few)) first) trace)
        (went_all n s0 h m (suc i) rest next t all2 f (omega arith) (omega (arith, is)) (λ some. shallow (omega arith)) others more) a (omega (arith, is, few))
