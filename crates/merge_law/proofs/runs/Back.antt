-- Each core run is the log of thread 1: the law asks no more than it has to.
use Rattle.std.proofs.Common.{◌≡◌, ℕ, List, [], ◌∷◌, length, reverse, Bool, true, false, refl, sym, ◌∙◌, ap, Option, Some, None, ◌⊎◌, inl, inr}
use Rattle.std.specs.Prelude.{ℤ, nat_eq, if◌then◌else◌, ◌||◌}
use Rattle.std.proofs.lemmas.Bool.{eqb-true}
use Rattle.std.proofs.lemmas.List.{reverse-reverse}
use Rattle.dfi_base.specs.Lives.{Ended}
use Rattle.dfi_base.specs.Grown.{IsGrown}
use Rattle.tac_ir.specs.declared.run.Op.{Op}
use Rattle.tac_ir.specs.declared.run.Stop.{Stop}
use Rattle.tac_ir.specs.declared.run.Answer.{Answer}
use Rattle.tac_ir.specs.declared.run.Entry.{Entry}
use Rattle.tac_ir.specs.declared.run.End.{End}
use Rattle.tac_ir.specs.declared.run.Limit.{Limit}
use Rattle.tac_ir.specs.Module.{Module}
use Rattle.tac_ir.specs.Path.{stops}
use Rattle.tac_ir.specs.Threads.{root_start, threads_of}
use Rattle.tac_ir.specs.Answers.{IsAnswer}
use Rattle.tac_ir.specs.Served.{is_served}
use Rattle.tac_ir.specs.CoreRun.{IsHistory, end_by, end_after, IsEnd}
use Rattle.tac_ir.proofs.Lasting.{history_served}
use Rattle.merge_law.specs.declared.rest.Rest.{Rest}
use Rattle.merge_law.specs.Logs.{FitsWant, IsLogOf}
use Rattle.merge_law.specs.Stops.{has_stop, kept, stop_by, stop_of}
use Rattle.merge_law.specs.AtRest.{IsAtRest, end_at_rest, end_of}
use Rattle.merge_law.specs.MergeLaws.{RunsAreLogs}
use Rattle.merge_law.proofs.runs.Stops.{stop_now, kept_whole}
use Rattle.merge_law.proofs.runs.Merging.{stop_lives}

-- what a thread answers itself hangs on no history
alone : (m : Module) (input : List ℤ) (h : List Entry) (n room : ℕ) (op : Op) (answer : Answer) → is_served op ≡ false → IsAnswer m input h n room op answer → IsAnswer m [] [] n room op answer
alone m input h n room (Op.Read r w) answer served a = absurd (cc)
alone m input h n room (Op.Write d w v) answer served a = absurd (cc)
alone m input h n room (Op.New site count) answer served a = absurd (cc)
alone m input h n room (Op.Free w) answer served a = absurd (cc)
alone m input h n room Op.In answer served a = absurd (cc)
alone m input h n room Op.Left answer served a = absurd (cc)
alone m input h n room op answer served a = a

grows : (m : Module) (input : List ℤ) (h : List Entry) → IsHistory m input h → IsGrown (threads_of m) (λ past. FitsWant m) 1 (root_start m) h
unfolding IsHistory IsGrown
grows m input [] run = tt
grows m input (e ∷ h) run =
    let f = run.0 in (
      record {
        start = f.start;
        want = f.want;
        next = f.next;
        fits = record { point = f.point; op = f.op; answer = λ own. alone m input h e.name.0 f.want.room e.op e.answer own f.answer };
      },
      grows m input h run.1,
    )

-- only the newest entry of a history stops
none_before : (m : Module) (input : List ℤ) (e : Entry) (h : List Entry) → IsHistory m input (e ∷ h) → has_stop h ≡ false
unfolding IsHistory
none_before m input e [] run = refl
none_before m input e (d ∷ h) run = ap (λ b. b || has_stop h) run.0.going ∙ none_before m input d h run.1

nothing_kept : kept [] ≡ []
unfolding kept
nothing_kept = refl

all_is_kept : (m : Module) (input : List ℤ) (h : List Entry) → IsHistory m input h → kept h ≡ h
all_is_kept m input [] run = nothing_kept
all_is_kept m input (e ∷ h) run = kept_whole e h (none_before m input e h run)

-- The end of a whole run in which thread 1 has not ended: its newest entry stops, or the budget is used up.
record Stopped (budget : ℕ) (h : List Entry) : Type 0 where
  stop : Stop
  is : stop_of h ≡ Some stop
  end : end_by stop ≡ end_after budget h
  has : has_stop h ≡ true

record UsedUp (budget : ℕ) (h : List Entry) : Type 0 where
  none : stop_of h ≡ None
  end : End.Limit Limit.Budget ≡ end_after budget h
  full : length h ≡ budget

by_count : (count budget : ℕ) → ((if nat_eq count budget then End.Limit Limit.Budget else End.Cut) ≡ End.Cut → ⊥)
    → (End.Limit Limit.Budget ≡ (if nat_eq count budget then End.Limit Limit.Budget else End.Cut)) × (count ≡ budget)
by_count count budget whole = by (nat_eq count budget) refl whole
  where
    by : (b : Bool) → nat_eq count budget ≡ b → ((if b then End.Limit Limit.Budget else End.Cut) ≡ End.Cut → ⊥)
        → (End.Limit Limit.Budget ≡ (if b then End.Limit Limit.Budget else End.Cut)) × (count ≡ budget)
    by true is whole = (refl, eqb-true count budget is)
    by false is whole = absurd (whole refl)

ends_so : (budget : ℕ) (h : List Entry) → (end_after budget h ≡ End.Cut → ⊥) → Stopped budget h ⊎ UsedUp budget h
ends_so budget [] whole = let c = by_count 0 budget whole in inr (record { none = refl; «end» = c.0; full = c.1 })
ends_so budget (e ∷ h) whole = by e.answer refl
  where
    end_by_answer : Answer → End
    end_by_answer a = elim a [ Answer.Stop stop ↦ end_by stop | _ ↦ (if nat_eq (length (e ∷ h)) budget then End.Limit Limit.Budget else End.Cut) ]

    used : (a : Answer) → e.answer ≡ a → end_by_answer a ≡ (if nat_eq (length (e ∷ h)) budget then End.Limit Limit.Budget else End.Cut) → stop_by a ≡ None → UsedUp budget (e ∷ h)
    used a is end none =
        let c = by_count (length (e ∷ h)) budget (λ cut. whole (ap end_by_answer is ∙ end ∙ cut)) in
        record { none = ap stop_by is ∙ none; «end» = c.0 ∙ sym end ∙ ap end_by_answer (sym is); full = c.1 }

    by : (a : Answer) → e.answer ≡ a → Stopped budget (e ∷ h) ⊎ UsedUp budget (e ∷ h)
    by (Answer.Stop stop) is = inl (record { stop = stop; is = ap stop_by is; «end» = ap end_by_answer (sym is); has = stop_now e h (ap stops is) })
    by Answer.Unit is = inr (used Answer.Unit is refl refl)
    by (Answer.Value v) is = inr (used (Answer.Value v) is refl refl)

-- how a history with this end came to rest
record CameToRest (m : Module) (budget : ℕ) (h : List Entry) (end_is : End) : Type 0 where
  rest : Rest
  at_rest : IsAtRest m budget h rest
  end : end_of rest h ≡ end_is

abbrev end_at : Rest → Option Stop → End
end_at rest o = elim o [ Some stop ↦ end_by stop | None ↦ end_at_rest rest ]

returned_none : (m : Module) (h : List Entry) → IsLogOf m 1 (root_start m) h → Ended (threads_of m) h 1 → stop_of h ≡ None
returned_none m [] log over = refl
returned_none m (e ∷ h) log over = by e.answer refl
  where
    by : (a : Answer) → e.answer ≡ a → stop_by e.answer ≡ None
    by (Answer.Stop stop) is = absurd (stop_lives m [] e h log (ap stops is) over)
    by Answer.Unit is = ap stop_by is
    by (Answer.Value v) is = ap stop_by is

going_end : (m : Module) (budget : ℕ) (h : List Entry) (end_is : End) → (Ended (threads_of m) h 1 → ⊥) → end_is ≡ end_after budget h → Stopped budget h ⊎ UsedUp budget h → CameToRest m budget h end_is
going_end m budget h end_is lives is (inl s) = record { rest = Rest.Stopped; at_rest = s.has; «end» = ap (end_at Rest.Stopped) s.is ∙ s.«end» ∙ sym is }
going_end m budget h end_is lives is (inr u) = record { rest = Rest.LeftOff; at_rest = (lives, λ none. u.full); «end» = ap (end_at Rest.LeftOff) u.none ∙ u.«end» ∙ sym is }

came : (m : Module) (budget : ℕ) (h : List Entry) (end_is : End) → IsLogOf m 1 (root_start m) h → IsEnd m budget h end_is → (end_is ≡ End.Cut → ⊥) → CameToRest m budget h end_is
came m budget h (End.Done v) log is whole = record { rest = Rest.Returned v; at_rest = is; «end» = ap (end_at (Rest.Returned v)) (returned_none m h log is.ended) }
came m budget h end_is log is whole = going_end m budget h end_is is.0 is.1 (ends_so budget h (λ cut. whole (is.1 ∙ cut)))

pub run_is_log : RunsAreLogs
run_is_log m input budget j few run =
    let h : List Entry = reverse j.entries in
    let log : IsLogOf m 1 (root_start m) h = record { grown = grows m input h run.history; few = few } in
    let all : kept h ≡ h = all_is_kept m input h run.history in
    record {
      log = log;
      served = history_served m input h run.history;
      rest = λ whole.
          (let r = came m budget h j.«end» log run.«end» whole in
          let entries : reverse (kept h) ≡ j.entries = ap reverse all ∙ reverse-reverse j.entries in
          let ends : end_of r.rest (kept h) ≡ j.«end» = ap (end_of r.rest) all ∙ r.«end» in
          (r.rest, r.at_rest, (λ i. record { entries = entries i; «end» = ends i })));
    }
