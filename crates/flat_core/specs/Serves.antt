-- The threads with what they share, beside the history of a run.
use Rattle.std.specs.Prelude.{◌≡◌, ℕ, false, Option, Some, None, List, ◌∷◌, ℤ}
use Rattle.tac_ir.specs.declared.run.Answer.{Answer}
use Rattle.tac_ir.specs.declared.run.Entry.{Entry}
use Rattle.tac_ir.specs.Module.{Module}
use Rattle.tac_ir.specs.Answers.{IsAnswer}
use Rattle.tac_ir.specs.Path.{stops}
use Rattle.tac_thread.specs.Threads.{Threads, life_in, running}
use Rattle.tac_thread.specs.declared.flat.FlatStack.{FlatStack}
use Rattle.path_law.specs.Wants.{room_in}
use Rattle.path_law.specs.Alive.{AreAlive}
use Rattle.flat_core.specs.declared.ask.Asked.{Asked}
use Rattle.flat_core.specs.declared.store.Store.{Store}
use Rattle.flat_core.specs.tools.Asked.{asked_of, entry_of}
use Rattle.flat_core.specs.Store.{IsStore}

abbrev pub FlatThreads : Type 0
FlatThreads = Threads ℕ FlatStack

-- the threads are those that live after this history, and what they share is where the run is
pub record Serves (m : Module) (input : List ℤ) (h : List Entry) (t : FlatThreads) (s : Store) : Type 0 where
  pub threads : AreAlive m h (life_in t) t.done
  pub store : IsStore m input h s

-- they serve some run of the module
abbrev pub IsServing : Module → FlatThreads → Store → Type 0
IsServing m t s = (input : List ℤ) × (h : List Entry) × Serves m input h t s

-- what thread n asks for
abbrev pub Asks : Module → FlatThreads → ℕ → Asked → Type 0
Asks m t n a = asked_of m.code (running (life_in t n)) ≡ Some a

-- what thread n asked for was answered so after the history: where that does not stop the run, all goes on with the entry
pub record IsPerformed (m : Module) (input : List ℤ) (h : List Entry) (n : ℕ) (a : Asked) (answer : Answer) (t : FlatThreads) (s : Store) : Type 0 where
  pub answers : IsAnswer m input h n (room_in a.stack) a.op answer
  pub goes_on : stops answer ≡ false → Serves m input (entry_of n a answer ∷ h) t s

-- whatever run they serve, this is its answer to what thread n asked for, and these are the parts behind it
abbrev pub Performs : Module → FlatThreads → Store → ℕ → Asked → Answer → FlatThreads → Store → Type 0
Performs m t s n a answer u r = (input : List ℤ) (h : List Entry) → Serves m input h t s → IsPerformed m input h n a answer u r

-- the next event of thread n was answered and done, and this is its entry; where the name is not runnable, there is none, and nothing has changed
abbrev pub Steps : Module → FlatThreads → Store → ℕ → Option Entry → FlatThreads → Store → Type 0
Steps m t s n None u r = (asked_of m.code (running (life_in t n)) ≡ None) × (u ≡ t) × (r ≡ s)
Steps m t s n (Some e) u r = (a : Asked) × (answer : Answer) × Asks m t n a × (e ≡ entry_of n a answer) × Performs m t s n a answer u r
