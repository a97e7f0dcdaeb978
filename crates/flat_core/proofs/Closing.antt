-- The end of a run, as a core tells it.
use Rattle.std.proofs.Common.{◌≡◌, ℕ, List, [], ◌∷◌, length, Bool, true, false, refl, Option, Some, None, sym, ◌∙◌, ap, subst, ◌⊎◌, inl, inr}
use Rattle.std.specs.Prelude.{ℤ, nat_eq, if◌then◌else◌}
use Rattle.std.proofs.lemmas.Bool.{eq-eqb}
use Rattle.std.proofs.lemmas.List.{length-reverse}
use Rattle.dfi_base.specs.Lives.{Ended}
use Rattle.tac_ir.specs.declared.run.Answer.{Answer}
use Rattle.tac_ir.specs.declared.run.Stop.{Stop}
use Rattle.tac_ir.specs.declared.run.Entry.{Entry}
use Rattle.tac_ir.specs.declared.run.End.{End}
use Rattle.tac_ir.specs.declared.run.Limit.{Limit}
use Rattle.tac_ir.specs.Module.{Module}
use Rattle.tac_ir.specs.GoodForm.{GoodForm}
use Rattle.tac_ir.specs.Path.{stops}
use Rattle.tac_ir.specs.Threads.{threads_of}
use Rattle.tac_ir.specs.CoreRun.{GoesOn, end_by, end_after, IsEnd}
use Rattle.tac_ir.specs.Words.{int_of}
use Rattle.tac_ir.specs.CoreRun.{Returns}
use Rattle.tac_thread.specs.Threads.{life_in}
use Rattle.path_law.specs.Standing.{FlatLife}
use Rattle.path_law.specs.InPlace.{FlatLives}
use Rattle.path_law.specs.Alive.{AreAlive}
use Rattle.path_law.specs.Returned.{MainReturned}
use Rattle.path_law.proofs.TreeLaws.{same_end, main_returned}
use Rattle.word_table.specs.Tables.{CanRun}
use Rattle.flat_core.specs.Serves.{Serves}
use Rattle.flat_core.specs.Stands.{Core, history_of, StandsBy, IsCoreOf, IsOver}
use Rattle.flat_core.specs.tools.Over.{is_there}
use Rattle.flat_core.specs.tools.Ends.{end_of_answer, end_of_last, end_of_done, end_in}
use Rattle.flat_core.proofs.Ending.{newest, last_is, going_with}

-- a value that is there is the one that main returned
main_returns : (m : Module) (h : List Entry) (f : FlatLives) (d : Option ℕ) (v : ℕ) → GoodForm m.code → AreAlive m h f d → d ≡ Some v → Returns m h (int_of v)
main_returns m h f d v good alive is = by (f 1) refl
  where
    told : MainReturned m h d → Returns m h (int_of v)
    told (w, value, r) = let both : Some w ≡ Some v = sym value ∙ is in let same : w ≡ v = cc in subst (λ x. Returns m h (int_of x)) same r

    by : (o : Option FlatLife) → f 1 ≡ o → Returns m h (int_of v)
    by None none = told (main_returned m h f d good alive ((same_end m h f d alive).0 none))
    by (Some l) lives = let clash : None ≡ Some v = sym (alive.place.main.lives l lives) ∙ is in cc

-- an end that is no value of main
is_no_value : (m : Module) (budget : ℕ) (h : List Entry) (stop : Stop) → (Ended (threads_of m) h 1 → ⊥) → end_by stop ≡ end_after budget h → IsEnd m budget h (end_by stop)
is_no_value m budget h (Stop.Alarm found) living is = (living, is)
is_no_value m budget h Stop.Divide living is = (living, is)
is_no_value m budget h Stop.Address living is = (living, is)
is_no_value m budget h Stop.Free living is = (living, is)
is_no_value m budget h Stop.Stack living is = (living, is)
is_no_value m budget h Stop.Heap living is = (living, is)
is_no_value m budget h Stop.Depth living is = (living, is)
is_no_value m budget h Stop.Share living is = (living, is)

abbrev after_answer : ℕ → ℕ → Answer → End
after_answer budget count answer = elim answer [ Answer.Stop stop ↦ end_by stop | _ ↦ (if nat_eq count budget then End.Limit Limit.Budget else End.Cut) ]

-- an end by a stop
stopped_end : (m : Module) (budget : ℕ) (e : Entry) (h : List Entry) (otherwise : End) (answer : Answer) → e.answer ≡ answer → stops answer ≡ true → (Ended (threads_of m) (e ∷ h) 1 → ⊥)
    → IsEnd m budget (e ∷ h) (end_of_answer otherwise answer)
stopped_end m budget e h otherwise (Answer.Stop stop) is stop_is living = is_no_value m budget (e ∷ h) stop living (sym (ap (after_answer budget (length (e ∷ h))) is))
stopped_end m budget e h otherwise (Answer.Value v) is stop_is living = cc
stopped_end m budget e h otherwise Answer.Unit is stop_is living = cc

going_answer : (otherwise : End) (answer : Answer) → stops answer ≡ false → end_of_answer otherwise answer ≡ otherwise
going_answer otherwise (Answer.Stop stop) goes = cc
going_answer otherwise (Answer.Value v) goes = refl
going_answer otherwise Answer.Unit goes = refl

going_after : (budget count : ℕ) (answer : Answer) → stops answer ≡ false → after_answer budget count answer ≡ (if nat_eq count budget then End.Limit Limit.Budget else End.Cut)
going_after budget count (Answer.Stop stop) goes = cc
going_after budget count (Answer.Value v) goes = refl
going_after budget count Answer.Unit goes = refl

-- by the number of entries
end_by_count : (budget : ℕ) (h : List Entry) → GoesOn h → (if nat_eq (length h) budget then End.Limit Limit.Budget else End.Cut) ≡ end_after budget h
end_by_count budget [] going = refl
end_by_count budget (e ∷ h) going = sym (going_after budget (length (e ∷ h)) e.answer going)

counted : (m : Module) (budget : ℕ) (h : List Entry) (b : Bool) → (Ended (threads_of m) h 1 → ⊥) → (if b then End.Limit Limit.Budget else End.Cut) ≡ end_after budget h
    → IsEnd m budget h (if b then End.Limit Limit.Budget else End.Cut)
counted m budget h true living is = (living, is)
counted m budget h false living is = (living, is)

-- an end that is none by a stop
done_end : (m : Module) (input : List ℤ) (budget : ℕ) (h : List Entry) (core : Core) → GoodForm m.code → GoesOn h → Serves m input h core.threads core.store → length core.entries ≡ length h
    → (d : Option ℕ) → core.threads.done ≡ d → IsEnd m budget h (end_of_done budget (length core.entries) d)
done_end m input budget h core good going serves count (Some v) is = main_returns m h (life_in core.threads) core.threads.done v good serves.threads is
done_end m input budget h core good going serves count None is =
    let living = (going_with m input core h going serves (ap is_there is)).living in
    let same : (if nat_eq (length core.entries) budget then End.Limit Limit.Budget else End.Cut) ≡ end_after budget h =
    ap (λ n. if nat_eq n budget then End.Limit Limit.Budget else End.Cut) count ∙ end_by_count budget h going in
    counted m budget h (nat_eq (length core.entries) budget) living same

ends : (m : Module) (input : List ℤ) (budget : ℕ) (core : Core) (h : List Entry) → GoodForm m.code → StandsBy m input core h → length core.entries ≡ length h
    → IsEnd m budget h (end_of_last (end_of_done budget (length core.entries) core.threads.done) (newest h))
ends m input budget core [] good stands count = done_end m input budget [] core good tt stands count core.threads.done refl
ends m input budget core (e ∷ h) good stands count = by (stops e.answer) refl stands
  where
    otherwise : End
    otherwise = end_of_done budget (length core.entries) core.threads.done

    by : (b : Bool) → stops e.answer ≡ b → (elim b as (λ x. Type 0) [ true ↦ (Ended (threads_of m) (e ∷ h) 1 → ⊥) | false ↦ Serves m input (e ∷ h) core.threads core.store ])
        → IsEnd m budget (e ∷ h) (end_of_answer otherwise e.answer)
    by true stop living = stopped_end m budget e h otherwise e.answer refl stop living
    by false goes serves =
        subst (IsEnd m budget (e ∷ h)) (sym (going_answer otherwise e.answer goes)) (done_end m input budget (e ∷ h) core good goes serves count core.threads.done refl)

pub end_is : (m : Module) (input : List ℤ) (budget : ℕ) (core : Core) → CanRun m → IsCoreOf m input core → IsEnd m budget (history_of core) (end_in core budget)
end_is m input budget core can is =
    let otherwise = end_of_done budget (length core.entries) core.threads.done in
    subst (λ o. IsEnd m budget (history_of core) (end_of_last otherwise o)) (sym (last_is core.entries))
    (ends m input budget core (history_of core) can.form is.stands (sym (length-reverse core.entries)))

-- Runs that are whole.

stopped_whole : (m : Module) (budget : ℕ) (h : List Entry) → (GoesOn h → ⊥) → End.Cut ≡ end_after budget h → ⊥
stopped_whole m budget [] stop is = stop tt
stopped_whole m budget (e ∷ h) stop is = by e.answer refl stop (is)
  where
    never : (s : Stop) → End.Cut ≡ end_by s → ⊥
    never (Stop.Alarm found) is = cc
    never Stop.Divide is = cc
    never Stop.Address is = cc
    never Stop.Free is = cc
    never Stop.Stack is = cc
    never Stop.Heap is = cc
    never Stop.Depth is = cc
    never Stop.Share is = cc

    by : (answer : Answer) → e.answer ≡ answer → (stops answer ≡ false → ⊥) → End.Cut ≡ after_answer budget (length (e ∷ h)) answer → ⊥
    by (Answer.Stop s) same stop is = never s is
    by (Answer.Value v) same stop is = stop refl
    by Answer.Unit same stop is = stop refl

spent_whole : (m : Module) (budget : ℕ) (h : List Entry) → GoesOn h → length h ≡ budget → End.Cut ≡ end_after budget h → ⊥
spent_whole m budget h going spent is =
    let limit : (if nat_eq (length h) budget then End.Limit Limit.Budget else End.Cut) ≡ End.Limit Limit.Budget = ap (λ b. if b then End.Limit Limit.Budget else End.Cut) (eq-eqb _ _ spent) in
    let clash : End.Cut ≡ End.Limit Limit.Budget = is ∙ sym (end_by_count budget h going) ∙ limit in
    cc

goes_or_stops : (h : List Entry) → (GoesOn h → ⊥) ⊎ GoesOn h
goes_or_stops [] = inr tt
goes_or_stops (e ∷ h) = by (stops e.answer) refl
  where
    by : (b : Bool) → stops e.answer ≡ b → (stops e.answer ≡ false → ⊥) ⊎ (stops e.answer ≡ false)
    by true stop = inl (λ goes. (let clash : true ≡ false = sym stop ∙ goes in cc))
    by false goes = inr goes

-- a run that has ended, or has used up its budget, is not cut
pub never_cut : (m : Module) (budget : ℕ) (h : List Entry) → IsOver m h ⊎ (length h ≡ budget) → IsEnd m budget h End.Cut → ⊥
never_cut m budget h (inl (inl stop)) cut = stopped_whole m budget h stop cut.1
never_cut m budget h (inl (inr over)) cut = cut.0 over
never_cut m budget h (inr spent) cut = by (goes_or_stops h)
  where
    by : (GoesOn h → ⊥) ⊎ GoesOn h → ⊥
    by (inl stop) = stopped_whole m budget h stop cut.1
    by (inr going) = spent_whole m budget h going spent cut.1
