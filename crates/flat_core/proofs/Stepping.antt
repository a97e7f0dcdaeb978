-- A core goes on by one step.
use Rattle.std.proofs.Common.{◌≡◌, ℕ, List, [], ◌∷◌, ◌++◌, reverse, Bool, true, false, refl, Some, None, sym, ◌∙◌, ap, subst}
use Rattle.std.specs.Prelude.{ℤ}
use Rattle.std.proofs.lemmas.List.{reverse-append}
use Rattle.dfi_base.specs.Lives.{IsRunnable, Ended}
use Rattle.tac_ir.specs.declared.run.Answer.{Answer}
use Rattle.tac_ir.specs.declared.run.Entry.{Entry}
use Rattle.tac_ir.specs.Module.{Module}
use Rattle.tac_ir.specs.Path.{stops}
use Rattle.tac_ir.specs.Threads.{threads_of}
use Rattle.tac_ir.specs.Answers.{IsAnswer}
use Rattle.tac_ir.specs.CoreRun.{Follows, IsHistory}
use Rattle.tac_thread.specs.Threads.{life_in, running}
use Rattle.path_law.specs.Wants.{room_in, next_of}
use Rattle.path_law.proofs.TreeLaws.{same_runnable}
use Rattle.path_law.proofs.Stopped.{stopped_run}
use Rattle.flat_core.specs.declared.ask.Asked.{Asked}
use Rattle.flat_core.specs.declared.store.Store.{Store}
use Rattle.flat_core.specs.tools.Asked.{asked_of, entry_of}
use Rattle.flat_core.specs.Serves.{FlatThreads, Serves, Asks, IsPerformed}
use Rattle.flat_core.specs.Stands.{Core, history_of, StandsBy, IsCoreOf, IsOver, IsStep}
use Rattle.flat_core.specs.tools.Over.{is_over}
use Rattle.flat_core.proofs.Asking.{asked_by, asks_something, asked_is_next}
use Rattle.flat_core.proofs.Ending.{IsGoing, goes_on, not_over}

-- the entry of what a thread asked for follows
follows : (m : Module) (input : List ℤ) (core : Core) (h : List Entry) (n : ℕ) (a : Asked) (answer : Answer) (t : FlatThreads) (s : Store) → IsGoing m input core h → Asks m core.threads n a
    → IsPerformed m input h n a answer t s → Follows m input h (entry_of n a answer)
follows m input core h n a answer t s go asks did =
    let by = asked_by m.code (running (life_in core.threads n)) a asks in
    let next = asked_is_next m h (life_in core.threads) core.threads.done n a go.serves.threads by in
    record {
      start = next.0;
      want = next_of by.life a.op;
      next = next.1;
      point = by.point;
      op = refl;
      answer = subst (λ x. IsAnswer m input h n (room_in x) a.op answer) by.stack did.answers;
      going = go.going;
      living = go.living;
    }

-- the parts of the core behind it
stands : (m : Module) (input : List ℤ) (core new : Core) (h : List Entry) (n : ℕ) (a : Asked) (answer : Answer) → IsGoing m input core h → Asks m core.threads n a
    → IsPerformed m input h n a answer new.threads new.store → StandsBy m input new (entry_of n a answer ∷ h)
stands m input core new h n a answer go asks did = by (stops answer) refl
  where
    by : (b : Bool) → stops answer ≡ b → (elim b as (λ x. Type 0) [ true ↦ (Ended (threads_of m) (entry_of n a answer ∷ h) 1 → ⊥) | false ↦ Serves m input (entry_of n a answer ∷ h) new.threads new.store ])
    by true stop = stopped_run m h (life_in core.threads) core.threads.done (entry_of n a answer) (asked_by m.code (running (life_in core.threads n)) a asks).life go.serves.threads
        (asked_by m.code (running (life_in core.threads n)) a asks).runs stop go.living
    by false stop = did.goes_on stop

more : (m : Module) (input : List ℤ) (e : Entry) (h : List Entry) → Follows m input h e → IsHistory m input h → IsHistory m input (e ∷ h)
unfolding IsHistory
more m input e h follows history = (follows, history)

pub stepped : (m : Module) (input : List ℤ) (core new : Core) (n : ℕ) (a : Asked) (answer : Answer) → IsCoreOf m input core → is_over core ≡ false → Asks m core.threads n a
    → IsPerformed m input (history_of core) n a answer new.threads new.store → new.entries ≡ core.entries ++ entry_of n a answer ∷ [] → IsStep m input n core (entry_of n a answer) new
stepped m input core new n a answer is over asks did entries =
    let h = history_of core in
    let go = goes_on m input core is over in
    let e = entry_of n a answer in
    let f = follows m input core h n a answer new.threads new.store go asks did in
    let turned : history_of new ≡ e ∷ h = ap reverse entries ∙ reverse-append core.entries (e ∷ []) in
    record {
      name = refl;
      follows = f;
      entries = entries;
      core = record {
        history = subst (IsHistory m input) (sym turned) (more m input e h f is.history);
        stands = subst (StandsBy m input new) (sym turned) (stands m input core new h n a answer go asks did);
      };
    }

-- who asks for nothing is not runnable
pub not_runnable : (m : Module) (input : List ℤ) (core : Core) (n : ℕ) → IsCoreOf m input core → is_over core ≡ false → asked_of m.code (running (life_in core.threads n)) ≡ None
    → (IsOver m (history_of core) → ⊥) × (IsRunnable (threads_of m) (history_of core) n → ⊥)
not_runnable m input core n is over none =
    let h = history_of core in
    let go = goes_on m input core is over in (
      not_over m input core h go,
      λ now. (
          let runs = (same_runnable m h (life_in core.threads) core.threads.done n go.serves.threads).1 now in
          let asks = asks_something m h (life_in core.threads) core.threads.done n runs.0 go.serves.threads runs.1 in
          let clash : None ≡ Some (let a : Asked = record { point = record { fun = runs.0.top.fun; at = runs.0.top.at }; op = asks.0; stack = runs.0.top.stack } in a) = sym none ∙ asks.1 in
          cc),
    )

-- a core with the same parts is the same
abbrev core_of : FlatThreads → Store → List Entry → Core
core_of t s es = record { threads = t; store = s; entries = es }

pub same_parts : (core : Core) (u : FlatThreads) (r : Store) (es : List Entry) → u ≡ core.threads → r ≡ core.store → es ≡ core.entries → core_of u r es ≡ core
same_parts core u r es threads store entries = ap (λ x. core_of x r es) threads ∙ ap (λ x. core_of core.threads x es) store ∙ ap (core_of core.threads core.store) entries

-- a core before its first step
pub first_core : (m : Module) (input : List ℤ) (core : Core) → core.entries ≡ [] → Serves m input [] core.threads core.store → IsCoreOf m input core
unfolding IsHistory
first_core m input core none serves =
    let turned : history_of core ≡ [] = ap reverse none in
    record { history = subst (IsHistory m input) (sym turned) tt; stands = subst (StandsBy m input core) (sym turned) serves }
