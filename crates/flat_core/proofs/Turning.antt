-- Runs along turns, entry by entry.
use Rattle.std.proofs.Common.{◌≡◌, ℕ, ◌+◌, ◌-◌, ◌<◌, ◌≤◌, List, [], ◌∷◌, ◌++◌, length, reverse, take, get_or, refl, Some, Err, arith, sym, ◌∙◌, ap, subst, ◌⊎◌, inl, inr}
use Rattle.std.specs.Prelude.{ℤ, slice_get}
use Rattle.std.proofs.lemmas.List.{map-append, length-map, length-take-le, length-append, length-reverse, reverse-append, reverse-reverse}
use Rattle.std.proofs.lemmas.Option.{slice_get-get_or}
use Rattle.dfi_base.specs.declared.numbers.Name.{Name}
use Rattle.dfi_base.specs.Lives.{IsRunnable}
use Rattle.tac_ir.specs.declared.run.Entry.{Entry}
use Rattle.tac_ir.specs.declared.run.Journal.{Journal}
use Rattle.tac_ir.specs.Module.{Module}
use Rattle.tac_ir.specs.Threads.{threads_of}
use Rattle.tac_ir.specs.CoreRun.{IsHistory, CoreRun, IsEnd, IsByLeast, LeastRun}
use Rattle.flat_core.specs.declared.fault.StepFault.{StepFault}
use Rattle.flat_core.specs.Stands.{Core, history_of, IsCoreOf, IsOver, IsStep, Answers}
use Rattle.flat_core.specs.tools.Ends.{IsLeastOf, end_in}
use Rattle.flat_core.specs.Runs.{names_of, IsRunAlong, IsRefused, IsRefusedAt, HasGone, refused_as, GoesAlong, IsLeastCore, GoesByLeast}
use Rattle.word_table.specs.Tables.{CanRun}
use Rattle.flat_core.proofs.Closing.{end_is, never_cut}

-- Given names.

-- no name yet
pub nothing_gone : (m : Module) (input : List ℤ) (budget : ℕ) (names : List Name) (core : Core) → core.entries ≡ [] → IsCoreOf m input core → HasGone m input budget (take 0 names) core
nothing_gone m input budget names core none is = record {
  is = is;
  made = ap names_of none;
  within = omega (arith, ap length none);
}

same_name : (a b : Name) → a.0 ≡ b.0 → a ≡ b
same_name a b e = λ i. record { 0 = e i }

-- one name more
pub gone_more : (m : Module) (input : List ℤ) (budget k : ℕ) (names : List Name) (name : Name) (old new : Core) (e : Entry) → HasGone m input budget (take k names) old → IsStep m input name.0 old e new
    → take (k + 1) names ≡ take k names ++ name ∷ [] → length (take k names) ≡ k → k + 1 ≤ budget → HasGone m input budget (take (k + 1) names) new
gone_more m input budget k names name old new e gone step more count room = record {
  is = step.core;
  made = ap names_of step.entries ∙ map-append (λ (x : Entry). x.name) old.entries (e ∷ []) ∙ ap (λ l. l ++ e.name ∷ []) gone.made ∙ ap (λ n. take k names ++ n ∷ []) (same_name e.name name step.name) ∙ sym more;
  within = (let size : length (names_of old.entries) ≡ k = ap length gone.made ∙ count in
      omega (arith, room, size, length-map old.entries (λ (x : Entry). x.name), ap length step.entries, length-append old.entries (e ∷ [])));
}

-- the name is refused
pub refused_at : (m : Module) (input : List ℤ) (budget k : ℕ) (names : List Name) (name : Name) (core : Core) → HasGone m input budget (take k names) core → slice_get names k ≡ Some name
    → IsRefused m budget (history_of core) name → IsRefusedAt m input budget names (k + 1)
refused_at m input budget k names name core gone here refused =
    let at : k + 1 - 1 ≡ k = omega arith in
    record {
      low = omega arith;
      name = name;
      here = ap (slice_get names) at ∙ here;
      history = history_of core;
      run = gone.is.history;
      before = ap names_of (reverse-reverse core.entries) ∙ gone.made ∙ ap (λ n. take n names) (sym at);
      within = omega (arith, length-reverse core.entries, gone.within);
      refused = refused;
    }

-- as many entries as names
pub count_gone : (m : Module) (input : List ℤ) (budget k : ℕ) (names : List Name) (core : Core) → HasGone m input budget (take k names) core → k ≤ length names → length core.entries ≡ k
count_gone m input budget k names core gone within =
    let size = ap length gone.made in
    omega (arith, size, length-map core.entries (λ (x : Entry). x.name), length-take-le k names within)

-- the budget is used up
pub spent_refuses : (m : Module) (input : List ℤ) (budget k : ℕ) (names : List Name) (core : Core) → HasGone m input budget (take k names) core → k < length names → budget ≤ k → IsRefusedAt m input budget names (k + 1)
spent_refuses m input budget k names core gone within spent =
    let nobody : Name = record { 0 = 0 } in
    refused_at m input budget k names (get_or names k nobody) core gone (slice_get-get_or names k nobody within)
    (inr (inl (omega (arith, spent, length-reverse core.entries, count_gone m input budget k names core gone (omega (arith, within))))))

-- a step that was refused refuses its name
pub step_refuses : (m : Module) (input : List ℤ) (budget k : ℕ) (names : List Name) (name : Name) (old new : Core) (fault : StepFault) → HasGone m input budget (take k names) old → slice_get names k ≡ Some name
    → Answers m input name.0 old (Err fault) new → GoesAlong m input budget names (Err (refused_as fault (k + 1))) new
step_refuses m input budget k names name old new StepFault.Over gone here says = refused_at m input budget k names name old gone here (inl says.0)
step_refuses m input budget k names name old new StepFault.NotRunnable gone here says = refused_at m input budget k names name old gone here (inr (inr says.1))
step_refuses m input budget k names name old new StepFault.Memory gone here says = tt

-- the journal of a core run
pub core_run : (m : Module) (input : List ℤ) (budget : ℕ) (core : Core) (j : Journal) → IsCoreOf m input core → j.entries ≡ core.entries → length core.entries ≤ budget → IsEnd m budget (history_of core) j.end → CoreRun m input budget j
core_run m input budget core j is entries within end = record {
  history = subst (λ l. IsHistory m input (reverse l)) (sym entries) is.history;
  within = omega (arith, within, ap length entries);
  end = subst (λ l. IsEnd m budget (reverse l) j.end) (sym entries) end;
}

pub run_along : (m : Module) (input : List ℤ) (budget : ℕ) (names : List Name) (core : Core) (j : Journal) → HasGone m input budget names core → j.entries ≡ core.entries → IsEnd m budget (history_of core) j.end
    → IsRunAlong m input budget names j
run_along m input budget names core j gone entries end = record { run = core_run m input budget core j gone.is entries gone.within end; made = ap names_of entries ∙ gone.made }

-- Least names.

pub nothing_least : (m : Module) (input : List ℤ) (core : Core) → core.entries ≡ [] → IsCoreOf m input core → IsLeastCore m input core
unfolding IsByLeast
nothing_least m input core none is = record { is = is; least = subst (λ l. IsByLeast m (reverse l)) (sym none) tt }

by_least_more : (m : Module) (e : Entry) (h : List Entry) → ((n : ℕ) → n < e.name.0 → IsRunnable (threads_of m) h n → ⊥) → IsByLeast m h → IsByLeast m (e ∷ h)
unfolding IsByLeast
by_least_more m e h least rest = (least, rest)

pub least_more : (m : Module) (input : List ℤ) (n : ℕ) (old new : Core) (e : Entry) → IsLeastCore m input old → IsLeastOf m (history_of old) (Some n) → IsStep m input n old e new → IsLeastCore m input new
least_more m input n old new e gone least step =
    let turned : history_of new ≡ e ∷ history_of old = ap reverse step.entries ∙ reverse-append old.entries (e ∷ []) in
    record {
      is = step.core;
      least = subst (IsByLeast m) (sym turned) (by_least_more m e (history_of old) (λ k low now. least.2 k (omega (arith, low, step.name)) now) gone.least);
    }

-- the least runnable name is not refused
pub least_steps : (m : Module) (input : List ℤ) (n : ℕ) (old new : Core) (fault : StepFault) → IsLeastOf m (history_of old) (Some n) → (fault ≡ StepFault.Memory → ⊥) → Answers m input n old (Err fault) new → ⊥
least_steps m input n old new StepFault.Over least other says = least.0 says.0
least_steps m input n old new StepFault.NotRunnable least other says = says.1 least.1
least_steps m input n old new StepFault.Memory least other says = other refl

pub least_run : (m : Module) (input : List ℤ) (budget : ℕ) (core : Core) (j : Journal) → GoesByLeast m input budget core → j.entries ≡ core.entries → IsEnd m budget (history_of core) j.end → LeastRun m input budget j
least_run m input budget core j gone entries end = record {
  run = core_run m input budget core j gone.gone.is entries gone.within end;
  least = subst (λ l. IsByLeast m (reverse l)) (sym entries) gone.gone.least;
  whole = λ cut. never_cut m budget (history_of core) (whole_of gone.whole) (subst (IsEnd m budget (history_of core)) cut end);
}
  where
    whole_of : IsOver m (history_of core) ⊎ (length core.entries ≡ budget) → IsOver m (history_of core) ⊎ (length (history_of core) ≡ budget)
    whole_of (inl over) = inl over
    whole_of (inr spent) = inr (length-reverse core.entries ∙ spent)

-- the journal that a core closes with
abbrev closed : Core → ℕ → Journal
closed core budget = record { entries = core.entries; «end» = end_in core budget }

pub gives_least : (m : Module) (input : List ℤ) (budget : ℕ) (core : Core) (j : Journal) → CanRun m → GoesByLeast m input budget core → j ≡ closed core budget → LeastRun m input budget j
gives_least m input budget core j can gone is =
    subst (LeastRun m input budget) (sym is) (least_run m input budget core (closed core budget) gone refl (end_is m input budget core can gone.gone.is))

pub gives_along : (m : Module) (input : List ℤ) (budget : ℕ) (names : List Name) (core : Core) (j : Journal) → CanRun m → HasGone m input budget names core → j ≡ closed core budget → IsRunAlong m input budget names j
gives_along m input budget names core j can gone is =
    subst (IsRunAlong m input budget names) (sym is) (run_along m input budget names core (closed core budget) gone refl (end_is m input budget core can gone.is))
