-- Laws of runs: they are found by the function, there is one along names, and what clean programs are.
use Rattle.std.proofs.Common.{◌≡◌, ℕ, zero, suc, ℤ, false, List, [], ◌∷◌, ◌++◌, reverse, length, refl, sym, ap, ◌∙◌, subst, Some}
use Rattle.std.specs.List.{All}
use Rattle.std.proofs.lemmas.List.{reverse-reverse, append-nil}
use Rattle.std.proofs.lemmas.List.Elements.{All-nil, All-head, All-tail}
use Rattle.dfi_base.specs.Lives.{BeginsIn}
use Rattle.dfi_base.specs.Grown.{IsGrown}
use Rattle.dfi_base.proofs.Entries.{begun_same, starts_none}
use Rattle.dfi_base.proofs.OneRun.{along_one}
use Rattle.c_typed.specs.Typed.{Typed}
use Rattle.obj_mem.specs.declared.value.Value.{Value}
use Rattle.obj_mem.specs.declared.event.Event.{Event}
use Rattle.obj_mem.specs.declared.event.Stamp.{Stamp}
use Rattle.obj_mem.specs.declared.run.SrcRun.{SrcRun}
use Rattle.obj_mem.specs.declared.run.SrcEnd.{SrcEnd}
use Rattle.obj_mem.specs.Valid.{answer_of}
use Rattle.src_law.specs.Traces.{by}
use Rattle.src_law.specs.Starts.{opening}
use Rattle.src_law.specs.Runs.{IsHistory, HasReturned, Ends, IsRunAlong, Clean, names_of, outputs_of, end_by, is_zero}
use Rattle.src_law.specs.Laws.{HistoriesGoOn, HistoriesAreOne, AloneIsOne, RunsAreOne, IsCleanByHistories, CleanIsByHistories}
use Rattle.src_law.specs.tools.Heard.{Heard}
use Rattle.src_law.specs.tools.Reader.{source_reading}
use Rattle.src_law.specs.tools.Threads.{forked_by, ran, refused}
use Rattle.src_law.specs.tools.ReaderLaws.{source_threads, IsAnswered}
use Rattle.src_law.specs.tools.RunLaws.{RunsAreComputed}
use Rattle.src_law.proofs.Places.{one_way}
use Rattle.src_law.proofs.Whole.{histories_read}
use Rattle.src_law.proofs.Running.{run_found, refusal_found, each_found, one_more, next_computed, going_alive, wrong_run, run_by}

no_history : (t : Typed) (input : List ℤ) → IsHistory t input []
unfolding IsGrown
no_history t input = histories_read.traced t input [] tt (All-nil (λ s. is_zero s.event ≡ false))

pub runs_computed : RunsAreComputed
runs_computed = record {
  runs = λ t input names r run. run_found t input names r run;
  refusals = λ t input names k f. refusal_found t input names k f;
  each = λ t input names. each_found t input names (no_history t input);
}

pub histories_go_on : HistoriesGoOn
histories_go_on t input h n e a p next answered = one_more t input h n e a p (going_alive t input h next.going) (next_computed t input h n e p next) answered

stamp_one : (first : List Stamp) (h : List Stamp) (w : Event) (d e : Stamp) → d.name.0 ≡ e.name.0 → IsAnswered first h w d → IsAnswered first h w e → d ≡ e
stamp_one first h w d e name a b =
    let event : d.event ≡ e.event = sym a.event ∙ b.event in
    let answers : Some d.answer ≡ Some e.answer = sym a.answer ∙ (ap (λ n. answer_of (h ++ first) n d.event) name ∙ (ap (answer_of (h ++ first) e.name.0) event ∙ b.answer)) in
    let answer : d.answer ≡ e.answer = cc in
    λ i. by (name i) (event i) (answer i)

pub histories_one : HistoriesAreOne
histories_one t input g h p q names =
    along_one (source_threads t) (IsAnswered (opening t input)) (one_way (source_reading t)) (λ z w d e name a b. stamp_one (opening t input) z w d e name a b) 1 [] g h names
    (histories_read.grown t input g p) (histories_read.grown t input h q)

-- Where nobody forks, all is done by thread 1.

module _ (t : Typed) (input : List ℤ) where
  only_first : (h : List Stamp) → All (λ s. forked_by s.event ≡ 0) h → (n : ℕ) (s : List Heard) → BeginsIn (source_threads t) 1 [] h n s → n ≡ 1
  unfolding BeginsIn
  only_first [] none n s b = b.0
  only_first (x ∷ h) none n s b =
      let none_here = All-head (λ z. forked_by z.event ≡ 0) x h none in
      only_first h (All-tail (λ z. forked_by z.event ≡ 0) x h none) n s (begun_same (source_threads t) 1 [] x h n s (starts_none (source_threads t) n x none_here) b)

  ones : ℕ → List ℕ
  ones zero = []
  ones (suc n) = 1 ∷ ones n

  all_ones : (h : List Stamp) → IsGrown (source_threads t) (IsAnswered (opening t input)) 1 [] h → All (λ s. forked_by s.event ≡ 0) h → names_of h ≡ ones (length h)
  unfolding IsGrown ones
  all_ones [] grown none = refl
  all_ones (x ∷ h) grown none =
      let rest = All-tail (λ z. forked_by z.event ≡ 0) x h none in
      let name = only_first h rest x.name.0 grown.0.start grown.0.next.begins in
      let others = all_ones h grown.1 rest in
      λ i. name i ∷ others i

pub alone_one : AloneIsOne
alone_one t input g h p q none_g none_h long =
    histories_one t input g h p q
    (all_ones t input g (histories_read.grown t input g p) none_g ∙ (ap (ones t input) long ∙ sym (all_ones t input h (histories_read.grown t input h q) none_h)))

-- One run along names.

ran_events : (g h : List Stamp) (d e : SrcEnd) → ran g d ≡ ran h e → g ≡ h
ran_events g h d e same = cc

ran_end : (g h : List Stamp) (d e : SrcEnd) → ran g d ≡ ran h e → d ≡ e
ran_end g h d e same = cc

pub runs_one : RunsAreOne
runs_one = record {
  run = λ t input names r s a b. one t input names r s a b;
  refusal = λ t input names j k a b. places j k (sym (refusal_found t input names j a) ∙ refusal_found t input names k b);
  either = λ t input names r k a b. never (reverse r.events) r.end k (sym (run_found t input names r a) ∙ refusal_found t input names k b);
}
  where
    places : (j k : ℕ) → refused j ≡ refused k → j ≡ k
    places j k same = cc

    never : (g : List Stamp) (e : SrcEnd) (k : ℕ) → ran g e ≡ refused k → ⊥
    never g e k same = cc

    one : (t : Typed) (input : List ℤ) (names : List ℕ) (r s : SrcRun) → IsRunAlong t input names r → IsRunAlong t input names s → r ≡ s
    one t input names r s a b =
        let same = sym (run_found t input names r a) ∙ run_found t input names s b in
        let backwards = ran_events (reverse r.events) (reverse s.events) r.end s.end same in
        let events : r.events ≡ s.events = sym (reverse-reverse r.events) ∙ (ap reverse backwards ∙ reverse-reverse s.events) in
        let outputs : r.outputs ≡ s.outputs = a.outputs ∙ (ap outputs_of events ∙ sym b.outputs) in
        let end = ran_end (reverse r.events) (reverse s.events) r.end s.end same in
        λ i. record { events = events i; outputs = outputs i; end = end i }

-- Clean programs.

pub clean_is : CleanIsByHistories
clean_is = record {
  to = λ t input clean. record { valid = λ h n e p next none. clean (names_of (reverse h) ++ n ∷ []) (run_by t input h SrcEnd.Invalid) (wrong_run t input h n e p next none) refl; number = λ h v p back. number t input clean h v p back };
  from = λ t input is names r run wrong. by_end t input is (reverse r.events) run.more r.end run.history run.ends wrong;
}
  where
    returned_run : (t : Typed) (input : List ℤ) (h : List Stamp) (v : Value) → IsHistory t input h → HasReturned t h v → IsRunAlong t input (names_of (reverse h)) (run_by t input h (end_by v))
    returned_run t input h v p back = record {
      history = subst (IsHistory t input) (sym (reverse-reverse h)) p;
      more = [];
      along = sym (append-nil (names_of (reverse h)));
      ends = subst (λ z. Ends t input z [] (end_by v)) (sym (reverse-reverse h)) (Ends.returns v back);
      outputs = refl;
    }

    number : (t : Typed) (input : List ℤ) → Clean t input → (h : List Stamp) (v : Value) → IsHistory t input h → HasReturned t h v → (k : ℤ) × (v ≡ Value.Int k)
    number t input clean h (Value.Int k) p back = (k, refl)
    number t input clean h Value.Null p back = absurd (clean (names_of (reverse h)) (run_by t input h SrcEnd.Invalid) (returned_run t input h Value.Null p back) refl)
    number t input clean h (Value.Ptr o place lo hi) p back = absurd (clean (names_of (reverse h)) (run_by t input h SrcEnd.Invalid) (returned_run t input h (Value.Ptr o place lo hi) p back) refl)

    done_not : (k : ℤ) → SrcEnd.Done k ≡ SrcEnd.Invalid → ⊥
    done_not k same = cc

    by_end : (t : Typed) (input : List ℤ) → IsCleanByHistories t input → (h : List Stamp) (more : List ℕ) (e : SrcEnd) → IsHistory t input h → Ends t input h more e → e ≡ SrcEnd.Invalid → ⊥
    by_end t input is h more e p (Ends.returns v back) wrong =
        let k = is.number h v p back in
        done_not k.0 (ap end_by (sym k.1) ∙ wrong)
    by_end t input is h more e p (Ends.traps trapped) wrong = cc
    by_end t input is h more e p (Ends.goes_wrong n w next none) wrong = is.valid h n w p next none
    by_end t input is h more e p (Ends.is_cut going) wrong = cc
