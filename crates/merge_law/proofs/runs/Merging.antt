-- The log of thread 1 is a core run up to its first stop.
use Rattle.std.proofs.Common.{◌≡◌, ℕ, ◌≤◌, List, [], ◌∷◌, length, reverse, Bool, true, false, refl, arith, sym, ◌∙◌, ap, subst, Some, None}
use Rattle.std.specs.Prelude.{ℤ, nat_eq, if◌then◌else◌}
use Rattle.std.proofs.lemmas.Bool.{eq-eqb}
use Rattle.std.proofs.lemmas.List.{reverse-reverse, length-reverse}
use Rattle.dfi_base.specs.Lives.{Ended, own}
use Rattle.dfi_base.specs.Grown.{IsGrown, AreFew}
use Rattle.dfi_base.proofs.Entries.{own_mine, not_itself, begins_same}
use Rattle.dfi_base.proofs.FirstLives.{all_have_ended, first_lives}
use Rattle.tac_ir.specs.declared.run.Op.{Op}
use Rattle.tac_ir.specs.declared.run.Stop.{Stop}
use Rattle.tac_ir.specs.declared.run.Answer.{Answer}
use Rattle.tac_ir.specs.declared.run.Entry.{Entry}
use Rattle.tac_ir.specs.declared.run.End.{End}
use Rattle.tac_ir.specs.declared.run.Limit.{Limit}
use Rattle.tac_ir.specs.Module.{Module}
use Rattle.tac_ir.specs.Path.{Start, stops}
use Rattle.tac_ir.specs.Threads.{root_start, threads_of}
use Rattle.tac_ir.specs.Answers.{IsAnswer}
use Rattle.tac_ir.specs.Served.{is_served, AreServed}
use Rattle.tac_ir.specs.CoreRun.{Follows, IsHistory, end_by, end_after, IsEnd}
use Rattle.tac_ir.proofs.Living.{deterministic, stopped_not_ended}
use Rattle.merge_law.specs.declared.rest.Rest.{Rest}
use Rattle.merge_law.specs.Logs.{FitsWant, IsLogOf}
use Rattle.merge_law.specs.Stops.{has_stop, kept, stop_of}
use Rattle.merge_law.specs.AtRest.{IsAtRest, end_at_rest, end_of, journal_of}
use Rattle.merge_law.specs.MergeLaws.{IsWholeRun, LogsAreOneRun}
use Rattle.merge_law.proofs.runs.Stops.{no_stop, no_stop_before, all_kept, none_stops, kept_same, kept_whole, EndsWithStop, last_stops, stop_here}

-- what a thread answers itself holds after any history
anywhere : (m : Module) (input : List ℤ) (h : List Entry) (n room : ℕ) (op : Op) (answer : Answer) → is_served op ≡ false → IsAnswer m [] [] n room op answer → IsAnswer m input h n room op answer
anywhere m input h n room (Op.Read r w) answer served a = absurd (cc)
anywhere m input h n room (Op.Write d w v) answer served a = absurd (cc)
anywhere m input h n room (Op.New site count) answer served a = absurd (cc)
anywhere m input h n room (Op.Free w) answer served a = absurd (cc)
anywhere m input h n room Op.In answer served a = absurd (cc)
anywhere m input h n room Op.Left answer served a = absurd (cc)
anywhere m input h n room op answer served a = a

answered : (m : Module) (input : List ℤ) (h : List Entry) (n room : ℕ) (e : Entry) → (is_served e.op ≡ false → IsAnswer m [] [] n room e.op e.answer)
    → (is_served e.op ≡ true → (k space : ℕ) → IsAnswer m input h k space e.op e.answer) → IsAnswer m input h n room e.op e.answer
answered m input h n room e mine table = by (is_served e.op) refl
  where
    by : (b : Bool) → is_served e.op ≡ b → IsAnswer m input h n room e.op e.answer
    by true is = table is n room
    by false is = anywhere m input h n room e.op e.answer is (mine is)

-- the log without its newest entry
pub before : (m : Module) (n : ℕ) (s : Start) (e : Entry) (h : List Entry) → IsLogOf m n s (e ∷ h) → IsLogOf m n s h
unfolding IsGrown AreFew
before m n s e h log = record { grown = log.grown.1; few = log.few.1 }

module _ (m : Module) (input : List ℤ) where
  follows : (h : List Entry) (e : Entry) → IsLogOf m 1 (root_start m) (e ∷ h) → AreServed m input (e ∷ h) → has_stop h ≡ false → Follows m input h e
  unfolding IsGrown AreServed AreFew
  follows h e log served none =
      let g = log.grown.0 in
      record {
        start = g.start;
        want = g.want;
        next = g.next;
        point = g.fits.point;
        op = g.fits.op;
        answer = answered m input h e.name.0 g.want.room e g.fits.answer served.0;
        going = no_stop h none;
        living = first_lives (threads_of m) (λ past. FitsWant m) (deterministic m) 1 (root_start m) h log.grown.1 log.few.1 e.name.0 g.start g.want g.next;
      }

  history : (h : List Entry) → IsLogOf m 1 (root_start m) h → AreServed m input h → has_stop h ≡ false → IsHistory m input h
  unfolding AreServed IsHistory
  history [] log served none = tt
  history (e ∷ h) log served none =
      let earlier = no_stop_before e h none in
      (follows h e log served earlier, history h (before m 1 (root_start m) e h log) served.1 earlier)

  -- the history up to the first stop
  pub record IsKept (h : List Entry) : Type 0 where
    pub log : IsLogOf m 1 (root_start m) (kept h)
    pub history : IsHistory m input (kept h)
    pub within : length (kept h) ≤ length h

  none_kept : IsLogOf m 1 (root_start m) [] → IsKept []
  unfolding IsHistory kept
  none_kept log = record { log = log; history = tt; within = omega arith }

  pub keeps : (h : List Entry) → IsLogOf m 1 (root_start m) h → AreServed m input h → IsKept h
  unfolding AreServed IsHistory
  keeps [] log served = none_kept log
  keeps (e ∷ h) log served = by (has_stop h) refl (keeps h (before m 1 (root_start m) e h log) served.1)
    where
      by : (b : Bool) → has_stop h ≡ b → IsKept h → IsKept (e ∷ h)
      by true is k =
          let same = kept_same e h is in
          record {
            log = subst (IsLogOf m 1 (root_start m)) (sym same) k.log;
            history = subst (IsHistory m input) (sym same) k.history;
            within = omega (arith, k.within, ap length same);
          }
      by false is k =
          let same = kept_whole e h is in
          record {
            log = subst (IsLogOf m 1 (root_start m)) (sym same) log;
            history = subst (IsHistory m input) (sym same) (follows h e log served is, history h (before m 1 (root_start m) e h log) served.1 is);
            within = omega (arith, ap length same);
          }

  -- where the newest entry stops, thread 1 has not ended
  pub stop_lives : (e : Entry) (h : List Entry) → IsLogOf m 1 (root_start m) (e ∷ h) → stops e.answer ≡ true → Ended (threads_of m) (e ∷ h) 1 → ⊥
  unfolding IsGrown
  stop_lives e h log stop first =
      let k = threads_of m in
      let g = log.grown.0 in
      let begins = begins_same k 1 (root_start m) e h e.name.0 g.start (not_itself k e.name.0 e refl) g.next.begins in
      stopped_not_ended m (e ∷ h) e.name.0 e (own k e.name.0 h) (own_mine k e.name.0 e h refl) stop
      (all_have_ended k (λ past. FitsWant m) (deterministic m) 1 (root_start m) (e ∷ h) log.grown log.few first e.name.0 g.start begins)

  end_by_stop : (budget : ℕ) (h : List Entry) (e : Entry) (stop : Stop) → e.answer ≡ Answer.Stop stop → end_by stop ≡ end_after budget (e ∷ h)
  end_by_stop budget h e stop is = ap (λ a. elim a [ Answer.Stop s ↦ end_by s | _ ↦ (if nat_eq (length (e ∷ h)) budget then End.Limit Limit.Budget else End.Cut) ]) (sym is)

  is_end_by : (budget : ℕ) (h : List Entry) (stop : Stop) → (Ended (threads_of m) h 1 → ⊥) → end_by stop ≡ end_after budget h → IsEnd m budget h (end_by stop)
  is_end_by budget h (Stop.Alarm found) lives is = (lives, is)
  is_end_by budget h Stop.Divide lives is = (lives, is)
  is_end_by budget h Stop.Address lives is = (lives, is)
  is_end_by budget h Stop.Free lives is = (lives, is)
  is_end_by budget h Stop.Stack lives is = (lives, is)
  is_end_by budget h Stop.Heap lives is = (lives, is)
  is_end_by budget h Stop.Depth lives is = (lives, is)
  is_end_by budget h Stop.Share lives is = (lives, is)

  not_cut : (stop : Stop) → end_by stop ≡ End.Cut → ⊥
  not_cut (Stop.Alarm found) is = cc
  not_cut Stop.Divide is = cc
  not_cut Stop.Address is = cc
  not_cut Stop.Free is = cc
  not_cut Stop.Stack is = cc
  not_cut Stop.Heap is = cc
  not_cut Stop.Depth is = cc
  not_cut Stop.Share is = cc

  full : (a : Answer) (count budget : ℕ) → stops a ≡ false → count ≡ budget
      → End.Limit Limit.Budget ≡ elim a [ Answer.Stop s ↦ end_by s | _ ↦ (if nat_eq count budget then End.Limit Limit.Budget else End.Cut) ]
  full (Answer.Stop stop) count budget goes is = cc
  full Answer.Unit count budget goes is = ap (λ b. if b then End.Limit Limit.Budget else End.Cut) (sym (eq-eqb count budget is))
  full (Answer.Value v) count budget goes is = ap (λ b. if b then End.Limit Limit.Budget else End.Cut) (sym (eq-eqb count budget is))

  end_by_budget : (budget : ℕ) (h : List Entry) → has_stop h ≡ false → length h ≡ budget → End.Limit Limit.Budget ≡ end_after budget h
  end_by_budget budget [] none is = ap (λ b. if b then End.Limit Limit.Budget else End.Cut) (sym (eq-eqb 0 budget is))
  end_by_budget budget (e ∷ h) none is = full e.answer (length (e ∷ h)) budget (no_stop (e ∷ h) none) is

  -- the end, by what is kept
  record IsItsEnd (budget : ℕ) (h : List Entry) (end_is : End) : Type 0 where
    is_end : IsEnd m budget h end_is
    whole : end_is ≡ End.Cut → ⊥

  -- the journal with this end
  written : (budget : ℕ) (h : List Entry) (rest : Rest) → IsKept h → length h ≤ budget → IsItsEnd budget (kept h) (end_of rest (kept h)) → IsWholeRun m input budget (journal_of rest h)
  written budget h rest k few is =
      let back : kept h ≡ reverse (reverse (kept h)) = sym (reverse-reverse (kept h)) in
      record {
        run = record {
          history = subst (IsHistory m input) back k.history;
          within = omega (arith, length-reverse (kept h), k.within, few);
          «end» = subst (λ l. IsEnd m budget l (end_of rest (kept h))) back is.is_end;
        };
        whole = is.whole;
      }

  stopped_end : (budget : ℕ) (h : List Entry) (rest : Rest) → IsKept h → EndsWithStop (kept h) → IsItsEnd budget (kept h) (end_of rest (kept h))
  stopped_end budget h rest k last =
      let log = subst (IsLogOf m 1 (root_start m)) last.is k.log in
      let lives = stop_lives last.last last.before log (ap stops last.stops_so) in
      let is = is_end_by budget (last.last ∷ last.before) last.stop lives (end_by_stop budget last.before last.last last.stop last.stops_so) in
      let here : stop_of (last.last ∷ last.before) ≡ Some last.stop = stop_here last.before last.stop last.last last.stops_so in
      let by : end_by last.stop ≡ end_of rest (last.last ∷ last.before) = ap (λ o. elim o [ Some stop ↦ end_by stop | None ↦ end_at_rest rest ]) (sym here) in
      subst (λ l. IsItsEnd budget l (end_of rest l)) (sym last.is)
      (subst (IsItsEnd budget (last.last ∷ last.before)) by (record { is_end = is; whole = not_cut last.stop }))

  rest_end : (budget : ℕ) (h : List Entry) (rest : Rest) → has_stop h ≡ false → IsAtRest m budget h rest → IsItsEnd budget h (end_at_rest rest)
  rest_end budget h (Rest.Returned v) none returned = record { is_end = returned; whole = λ is. cc }
  rest_end budget h Rest.Stopped none some = let clash : true ≡ false = sym some ∙ none in absurd (cc)
  rest_end budget h Rest.LeftOff none left = record { is_end = (left.0, end_by_budget budget h none (left.1 none)); whole = λ is. cc }

  whole_end : (budget : ℕ) (h : List Entry) (rest : Rest) → has_stop h ≡ false → IsAtRest m budget h rest → IsItsEnd budget (kept h) (end_of rest (kept h))
  whole_end budget h rest none at_rest =
      let by : end_at_rest rest ≡ end_of rest h = ap (λ o. elim o [ Some stop ↦ end_by stop | None ↦ end_at_rest rest ]) (sym (none_stops h none)) in
      subst (λ l. IsItsEnd budget l (end_of rest l)) (sym (all_kept h none)) (subst (IsItsEnd budget h) by (rest_end budget h rest none at_rest))

pub merging : LogsAreOneRun
merging m input budget h rest log served few at_rest = by (has_stop h) refl
  where
    k : IsKept m input h
    k = keeps m input h log served

    by : (b : Bool) → has_stop h ≡ b → IsWholeRun m input budget (journal_of rest h)
    by true some = written m input budget h rest k few (stopped_end m input budget h rest k (last_stops h some))
    by false none = written m input budget h rest k few (whole_end m input budget h rest none at_rest)
