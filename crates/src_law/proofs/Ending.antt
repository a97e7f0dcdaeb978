-- Where a thread has ended, as the reader tells, its trace has come to a result.
use Rattle.std.proofs.Common.{◌≡◌, ℕ, suc, ◌+◌, ◌*◌, ◌%◌, ◌≤◌, ◌<◌, Bool, true, false, nat_le, List, [], ◌∷◌, ◌++◌, reverse, refl, sym, ap, ◌∙◌, subst, Option, Some, None, arith}
use Rattle.std.proofs.lemmas.Bool.{leb-true}
use Rattle.std.proofs.lemmas.List.{append-nil}
use Rattle.dfi_base.specs.Names.{depth_of}
use Rattle.dfi_base.specs.Lives.{own, BeginsIn, EndedIn, branches_after}
use Rattle.dfi_base.specs.Lives.EndedIn.{ended as has_ended}
use Rattle.dfi_base.proofs.Names.{below_siblings}
use Rattle.dfi_base.specs.Names.Below.{itself}
use Rattle.dfi_base.proofs.Entries.{own_mine, first_begins, few_branches}
use Rattle.dfi_base.proofs.OneLife.{begins_one}
use Rattle.obj_mem.specs.declared.event.Event.{Event}
use Rattle.obj_mem.specs.declared.event.SrcAnswer.{SrcAnswer}
use Rattle.obj_mem.specs.declared.event.Stamp.{Stamp}
use Rattle.src_law.specs.Acts.{End, done, broken, again, returned, Kind, an_end, Result, Act, Acts, count, is_last}
use Rattle.src_law.specs.Traces.{Trace, Traces, by, is_deep, turn}
use Rattle.src_law.specs.tools.Heard.{Heard, Res, wants, over, off, Reads, bind}
use Rattle.src_law.specs.tools.Reader.{reads, to_end}
use Rattle.src_law.specs.tools.Threads.{depth, heard, at, is_settled, threads_of}
use Rattle.src_law.proofs.Depths.{depth_forked}
use Rattle.src_law.proofs.Fuel.{Bodies}
use Rattle.src_law.proofs.First.{First, at_first, last_forks_none}
use Rattle.src_law.proofs.Stamps.{rev_cons, rev_both}
use Rattle.src_law.proofs.Parting.{ended_part, ended_rest}
use Rattle.src_law.proofs.Places.{one_way, born, Place, now_heard, at_place, own_step}
use Rattle.src_law.proofs.Going.{BranchIsDeeper, Here, went, went_all, WentAll, following, here_first, here_second, here_body, here_turn, want_at, after_event, AtFork, fork_of, start_at, begun_there, branch_next, branch_place, branch_here, AreReady, one_ready, ready_here, want_fork, not_deep, own_beyond, join_of}

more_is_false : (x y : ℕ) → suc y ≤ x → nat_le x y ≡ false
more_is_false x y low = grind (arith, nat_le)

module _ {A : Type 0} (R : Reads A) (b : Bodies) (deeper : BranchIsDeeper) where
  -- its reading is settled
  pub settled_there : (n : ℕ) (s0 : List Heard) (h : List Stamp) → Place R n s0 h → EndedIn (threads_of R) n s0 h n → is_settled (R (now_heard R n s0 h)) ≡ true
  settled_there n s0 h p (has_ended i s begins stops joined) =
      let same = begins_one (threads_of R) (one_way R) i s0 h i s s0 begins (first_begins (threads_of R) i s0 (λ g w x. w ≡ x.event) h p.grown) in
      ap is_settled (sym (at_place R i s0 h p)) ∙ subst (λ z. is_settled (at R z (own (threads_of R) i h)) ≡ true) same stops

  pub record Done (n : ℕ) (k : Kind) (a : Act k) (u : List Stamp) : Type 0 where
    pub result : Result k
    pub trace : Trace b n k a u (Some result)

  pub reading_at : (n : ℕ) (s0 : List Heard) (h : List Stamp) (k : Kind) (a : Act k) (next : Result k → Reads A) (r : Res (Result k)) → Here R b deeper n s0 h k a next → reads b 0 k a [] ≡ r
      → R (now_heard R n s0 h) ≡ bind r next
  reading_at n s0 h k a next r here is = ap R (sym (append-nil (now_heard R n s0 h))) ∙ (here.reads_on [] tt 0 (omega arith) ∙ ap (λ z. bind z next) is)

  done_first : (n : ℕ) (s0 : List Heard) (h : List Stamp) (k : Kind) (a : Act k) (next : Result k → Reads A) → Place R n s0 h → Here R b deeper n s0 h k a next → EndedIn (threads_of R) n s0 h n → Done n k a []
  done_first n s0 h k a next p here e = go (at_first b n 0 k a)
    where
      settled : is_settled (R (now_heard R n s0 h)) ≡ true
      settled = settled_there n s0 h p e

      go : First b n 0 k a → Done n k a []
      go (First.has_got y is trace) = record { result = y; trace = trace }
      go (First.has_want w is more) = (let reading = ap is_settled (reading_at n s0 h k a next (wants w) here is) in absurd (clash (sym reading ∙ settled)))
        where
          clash : false ≡ true → ⊥
          clash same = cc
      go (First.is_off is) = (let reading = ap is_settled (reading_at n s0 h k a next off here is) in absurd (clash (sym reading ∙ settled)))
        where
          clash : false ≡ true → ⊥
          clash same = cc

  done_then : (n : ℕ) (j k : Kind) (a : Act j) (g : Result j → Act k) (s t u : List Stamp) (x : Result j) → Trace b n j a s (Some x) → u ≡ s ++ t → Done n k (g x) t → Done n k (Act.then a g) u
  done_then n j k a g s t u x left is d = record { result = d.result; trace = Trace.then n j k a g s t u x (Some d.result) left d.trace is }

  -- behind an event behind which nothing follows
  pub stopped : (n : ℕ) (s0 : List Heard) (h : List Stamp) (k : Kind) (e : Event) (last : is_last e ≡ true) (next : Result k → Reads A) → Here R b deeper n s0 h k (Act.stops e last) next
      → R (now_heard R n s0 (by n e SrcAnswer.Unit ∷ h)) ≡ over
  stopped n s0 h k e last next here =
      ap R (sym (append-nil (now_heard R n s0 (by n e SrcAnswer.Unit ∷ h)))) ∙ after_event R b deeper n s0 h k (Act.stops e last) next e SrcAnswer.Unit here [] 1 (omega arith)

  -- no branch of a deep thread does anything
  pub deep_start : (n : ℕ) (s0 : List Heard) (h : List Stamp) (m i : ℕ) → AtFork R b deeper n s0 h m → 14 ≤ depth_of n → (o : List Stamp) → at R (start_at R b deeper n s0 h i) o ≡ off
  deep_start n s0 h m i f deep o =
      ap (λ z. elim z as (λ y. Res A) [ true ↦ R (heard (start_at R b deeper n s0 h i) o) | false ↦ off ]) far
    where
      far : nat_le (depth (start_at R b deeper n s0 h i)) 14 ≡ false
      far =
          let is = depth_forked s0 (own (threads_of R) n h) ((16 * n + i) % 16) in
          let same = f.place.depth_is in
          more_is_false (depth (start_at R b deeper n s0 h i)) 14 (omega (arith, is, same, deep))

  -- so a deep thread waits for good
  first_never_ends : (n : ℕ) (s0 : List Heard) (h : List Stamp) (m : ℕ) → AtFork R b deeper n s0 h m → 14 ≤ depth_of n → 1 ≤ m → EndedIn (threads_of R) n s0 (fork_of R b deeper n m ∷ h) (16 * n + 1) → ⊥
  first_never_ends n s0 h m f deep some e = by (16 * n + 1) refl e
    where
      clash : false ≡ true → ⊥
      clash wrong = cc

      by : (q : ℕ) → q ≡ 16 * n + 1 → EndedIn (threads_of R) n s0 (fork_of R b deeper n m ∷ h) q → ⊥
      by q is (has_ended j t starts stop more) =
          let begun = (begun_there R b deeper n s0 h m 1 f (omega arith) some).0 in
          let same = begins_one (threads_of R) (one_way R) n s0 (fork_of R b deeper n m ∷ h) j t (start_at R b deeper n s0 h 1) starts
          (subst (λ z. BeginsIn (threads_of R) n s0 (fork_of R b deeper n m ∷ h) z (start_at R b deeper n s0 h 1)) (sym is) begun) in
          let o = own (threads_of R) j (fork_of R b deeper n m ∷ h) in
          let nothing : is_settled (at R (start_at R b deeper n s0 h 1) o) ≡ false = ap is_settled (deep_start n s0 h m 1 f deep o) in
          let something : is_settled (at R (start_at R b deeper n s0 h 1) o) ≡ true = subst (λ z. is_settled (at R z o) ≡ true) same stop in
          clash (sym nothing ∙ something)

  pub deep_waits : (n : ℕ) (s0 : List Heard) (h : List Stamp) (branches : Acts) → AtFork R b deeper n s0 h (count branches) → is_deep n branches ≡ true
      → ((j : ℕ) → 0 < j → j ≤ count branches → EndedIn (threads_of R) n s0 (fork_of R b deeper n (count branches) ∷ h) (16 * n + j)) → ⊥
  deep_waits n s0 h Acts.no_more f deep ends = cc
  deep_waits n s0 h (Acts.beside a rest) f deep ends = first_never_ends n s0 h (count (Acts.beside a rest)) f (leb-true 14 (depth_of n) deep) (omega arith) (ends 1 (omega arith) (omega arith))

  deep_never_ends : (n : ℕ) (s0 : List Heard) (h : List Stamp) (branches : Acts) → AtFork R b deeper n s0 h (count branches) → is_deep n branches ≡ true
      → EndedIn (threads_of R) n s0 (fork_of R b deeper n (count branches) ∷ h) n → ⊥
  deep_never_ends n s0 h branches f deep (has_ended i s begins stops joined) =
      deep_waits i s0 h branches f deep (λ j low high.
      (let many = ap (branches_after (threads_of R)) (own_mine (threads_of R) i (fork_of R b deeper i (count branches)) h refl) in joined j low (omega (arith, high, many))))

  -- what a branch comes to settles it
  end_is : (y : End) (next : End → Reads A) → is_settled (bind (to_end y []) next) ≡ true → y ≡ done
  end_is done next is = refl
  end_is broken next is = cc
  end_is again next is = cc
  end_is (returned v) next is = cc

  -- a branch whose thread has ended is done
  branch_done : (q : ℕ) (s0 : List Heard) (a : Act an_end) (s : List Stamp) (next : End → Reads A) → Place R q s0 [] → Here R b deeper q s0 [] an_end a (branch_next R b deeper next)
      → EndedIn (threads_of R) q s0 (reverse s ++ []) q → Done q an_end a s → Trace b q an_end a s (Some done)
  branch_done q s0 a s next p here e d =
      let w = went R b deeper q s0 [] an_end a (branch_next R b deeper next) s (Some d.result) p here d.trace in
      let place = w.place d.result refl in
      let settled = settled_there q s0 (reverse s ++ []) place e in
      let reading = ap R (sym (append-nil (now_heard R q s0 (reverse s ++ [])))) ∙ w.on d.result refl [] tt in
      subst (λ y. Trace b q an_end a s (Some y)) (end_is d.result next (sym (ap is_settled reading) ∙ settled)) d.trace

  abbrev Ends : (n : ℕ) → List Heard → List Stamp → ℕ → Type 0
  Ends n s0 h q = EndedIn (threads_of R) n s0 h q

  over_unsettled : false ≡ true → ⊥
  over_unsettled same = cc

  -- a part that is cut where its result is there, and what follows
  done_cut : (n : ℕ) (s0 : List Heard) (h : List Stamp) (j k : Kind) (a : Act j) (g : Result j → Act k) (next : Result k → Reads A) (u : List Stamp) → Place R n s0 h
      → Here R b deeper n s0 h k (Act.then a g) next → Ends n s0 (reverse u ++ h) n → Done n j a u → Done n k (Act.then a g) u
  done_cut n s0 h j k a g next u p here e d =
      let w = went R b deeper n s0 h j a (following R b deeper j k g next) u (Some d.result) p (here_first R b deeper n s0 h j k a g next here) d.trace in
      done_then n j k a g u [] u d.result d.trace (sym (append-nil u))
      (done_first n s0 (reverse u ++ h) k (g d.result) next (w.place d.result refl) (here_second R b deeper n s0 u (reverse u ++ h) j k g next d.result w) e)

  -- where a thread has ended, its branches have
  pub joined_there : (n : ℕ) (s0 : List Heard) (h : List Stamp) (branches : Acts) (s : List Stamp) {all : Bool} → WentAll R b deeper n s0 1 branches s (reverse s ++ fork_of R b deeper n (count branches) ∷ h) all
      → Ends n s0 (reverse s ++ fork_of R b deeper n (count branches) ∷ h) n → (j : ℕ) → 1 ≤ j → j ≤ count branches
      → Ends n s0 (reverse s ++ fork_of R b deeper n (count branches) ∷ h) (16 * n + j)
  joined_there n s0 h branches s w (has_ended i begin begins stops joined) j low high =
      let same = ap (branches_after (threads_of R))
      (own_beyond R b deeper i s (fork_of R b deeper i (count branches) ∷ h) w.beyond ∙ own_mine (threads_of R) i (fork_of R b deeper i (count branches)) h refl) in
      joined j low (omega (arith, high, same))

  mutual
    pub done_by : (n : ℕ) (s0 : List Heard) (h : List Stamp) (k : Kind) (a : Act k) (next : Result k → Reads A) (u : List Stamp) (r : Option (Result k)) → Place R n s0 h → Here R b deeper n s0 h k a next
        → Trace b n k a u r → Ends n s0 (reverse u ++ h) n → Done n k a u
    done_by n s0 h k a next u r p here (Trace.cut_first _ _ _) e = done_first n s0 h k a next p here e
    done_by n s0 h k a next u r p here (Trace.cut_last _ _ _ _ x trace) e = record { result = x; trace = trace }
    done_by n s0 h k a next u r p here (Trace.gives _ _ x) e = record { result = x; trace = Trace.gives n k x }
    done_by n s0 h k a next u r p here (Trace.does _ _ w is x y result) e = record { result = y; trace = Trace.does n k w is x y result }
    done_by n s0 h k a next u r p here (Trace.stops _ _ w last) e =
        let place = own_step R n s0 h w SrcAnswer.Unit p (want_at R b deeper n s0 h k a next w here refl) (last_forks_none w last) in
        let settled = settled_there n s0 (by n w SrcAnswer.Unit ∷ h) place e in
        absurd (over_unsettled (sym (ap is_settled (stopped n s0 h k w last next here)) ∙ settled))
    done_by n s0 h k a next u r p here (Trace.then _ j _ first g s t _ x _ left right is) e =
        let w = went R b deeper n s0 h j first (following R b deeper j k g next) s (Some x) p (here_first R b deeper n s0 h j k first g next here) left in
        done_then n j k first g s t u x left is
        (done_by n s0 (reverse s ++ h) k (g x) next t r (w.place x refl) (here_second R b deeper n s0 s (reverse s ++ h) j k g next x w) right
        (subst (λ z. Ends n s0 z n) (rev_both s t h) (subst (λ z. Ends n s0 (reverse z ++ h) n) is e)))
    done_by n s0 h k a next u r p here (Trace.then_cut _ j _ first g _ left) e =
        done_cut n s0 h j k first g next u p here e (done_by n s0 h j first (following R b deeper j k g next) u None p (here_first R b deeper n s0 h j k first g next here) left e)
    done_by n s0 h k a next u r p here (Trace.calls _ f m vs s _ trace) e =
        let want = want_at R b deeper n s0 h k a next (Event.Call f) here refl in
        let d = done_by n s0 (by n (Event.Call f) (SrcAnswer.Frame m) ∷ h) k (b f m vs) next s r (own_step R n s0 h (Event.Call f) (SrcAnswer.Frame m) p want refl) (here_body R b deeper n s0 h f m vs next here) trace
        (subst (λ z. Ends n s0 z n) (rev_cons (by n (Event.Call f) (SrcAnswer.Frame m)) s h) e) in
        record { result = d.result; trace = Trace.calls n f m vs s (Some d.result) d.trace }
    done_by n s0 h k a next u r p here (Trace.loops _ test inner step s _ trace) e =
        let want = want_at R b deeper n s0 h k a next Event.Turn here refl in
        let d = done_by n s0 (by n Event.Turn SrcAnswer.Unit ∷ h) k (turn test inner step) next s r (own_step R n s0 h Event.Turn SrcAnswer.Unit p want refl) (here_turn R b deeper n s0 h test inner step next here) trace
        (subst (λ z. Ends n s0 z n) (rev_cons (by n Event.Turn SrcAnswer.Unit) s h) e) in
        record { result = d.result; trace = Trace.loops n test inner step s (Some d.result) d.trace }
    done_by n s0 h k a next u r p here (Trace.forks _ branches s all few shallow traces) e =
        let f : AtFork R b deeper n s0 h (count branches) = record { place = p; want = want_fork R b deeper n s0 h branches next few here; few = few } in
        record {
          result = done;
          trace = Trace.forks n branches s true few shallow
              (all_done n s0 h (count branches) 1 branches next s all f (omega arith) (omega arith) (not_deep R b deeper n branches shallow) (ready_here R b deeper n s0 h branches next few here) traces
              (λ j low high.
              joined_there n s0 h branches s (went_all R b deeper n s0 h (count branches) 1 branches next s all f (omega arith) (omega arith) (not_deep R b deeper n branches shallow) (ready_here R b deeper n s0 h branches next few here) traces)
              (subst (λ z. Ends n s0 z n) (rev_cons (fork_of R b deeper n (count branches)) s h) e) j low (omega (arith, high))));
        }
    done_by n s0 h k a next u r p here (Trace.forks_deep _ branches few deep) e =
        absurd (deep_never_ends n s0 h branches (record { place = p; want = want_fork R b deeper n s0 h branches next few here; few = few }) deep e)

    pub all_done : (n : ℕ) (s0 : List Heard) (h : List Stamp) (m i : ℕ) (rest : Acts) (next : End → Reads A) (u : List Stamp) (all : Bool) → AtFork R b deeper n s0 h m → 0 < i → i + count rest ≡ suc m
        → (0 < count rest → suc (depth_of n) ≤ 14) → AreReady R b deeper (now_heard R n s0 h) next i rest → Traces b n i rest u all
        → ((j : ℕ) → i ≤ j → j < i + count rest → Ends n s0 (reverse u ++ fork_of R b deeper n m ∷ h) (16 * n + j)) → Traces b n i rest u true
    all_done n s0 h m i rest next u all f low is shallow ready (Traces.no_more _ _) ends = Traces.no_more n i
    all_done n s0 h m i (Acts.beside _ _) next u all f low is shallow (one_ready _ _ _ first others) (Traces.beside _ _ a rest s t _ r all2 trace more shuffle) ends =
        let few = f.few in
        let high : i ≤ m = omega (arith, is) in
        let q = 16 * n + i in
        let si = start_at R b deeper n s0 h i in
        let tail = fork_of R b deeper n m ∷ h in
        let place = branch_place R b deeper n s0 h m i f low high (shallow (omega arith)) in
        let here = branch_here R b deeper n s0 h i a next low (omega (arith, high, few)) first in
        let w1 = went R b deeper q si [] an_end a (branch_next R b deeper next) s r place here trace in
        let w2 = went_all R b deeper n s0 h m (suc i) rest next t all2 f (omega arith) (omega (arith, is)) (λ some. shallow (omega arith)) others more in
        let j0 = join_of R b deeper n s0 h m i f low high rest s t u r all2 next shuffle w1 w2 in
        let begun = (begun_there R b deeper n s0 h m i f low high).0 in
        let none = (begun_there R b deeper n s0 h m i f low high).1 in
        let e = ended_part (threads_of R) (one_way R) (born R) n q s0 si tail begun none (reverse u ++ tail) (reverse t ++ tail) (reverse s ++ []) j0 w1.few q si
        (first_begins (threads_of R) q si (λ g w x. w ≡ x.event) (reverse s ++ []) w1.grown) (ends i (omega arith) (omega arith)) in
        Traces.beside n i a rest s t u (Some done) true
        (branch_done q si a s next place here e (done_by q si [] an_end a (branch_next R b deeper next) s r place here trace e))
        (all_done n s0 h m (suc i) rest next t all2 f (omega arith) (omega (arith, is)) (λ some. shallow (omega arith)) others more
        (λ j from to.
        ended_rest (threads_of R) (one_way R) (born R) n q s0 si tail begun none (reverse u ++ tail) (reverse t ++ tail) (reverse s ++ []) j0 (few_branches (threads_of R) (reverse t ++ tail) w2.few) (16 * n + j)
        (below_siblings n i j q (16 * n + j) (λ same. omega (arith, same, from)) low (omega (arith, high, few)) (omega (arith, from)) (omega (arith, to, is, few)) (itself q refl) (itself (16 * n + j) refl))
        (ends j (omega (arith, from)) (omega (arith, to)))))
        shuffle
