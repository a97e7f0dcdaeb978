-- The threads of a tree, and those of a run.
use Rattle.std.specs.Prelude.{◌≡◌, ℕ, ◌+◌, ◌*◌, ◌/◌, ◌%◌, ◌<◌, ◌≤◌, Bool, true, false, Option, Some, None, List}
use Rattle.dfi_base.specs.Lives.{own, Begins, branches_after, Ended}
use Rattle.tac_ir.specs.declared.run.Entry.{Entry}
use Rattle.tac_ir.specs.Module.{Module}
use Rattle.tac_ir.specs.Path.{Start}
use Rattle.tac_ir.specs.Threads.{root_start, threads_of}
use Rattle.tac_thread.specs.declared.flat.FlatStack.{FlatStack}
use Rattle.tac_thread.specs.Threads.{Lives, is_waiting, HasBranch, HasParent, main_value}
use Rattle.tac_thread.specs.Flat.{flat_meaning}
use Rattle.path_law.specs.Standing.{FlatLife, IsAt}
use Rattle.path_law.specs.Wants.{EndsWith}

abbrev pub FlatLives : Type 0
FlatLives = Lives ℕ FlatStack

-- how many branches the newest entry of thread n started
abbrev pub started : Module → List Entry → ℕ → ℕ
started m h n = branches_after (threads_of m) (own (threads_of m) n h)

-- this is the life of thread n after a history
pub record IsInPlace (m : Module) (h : List Entry) (n : ℕ) (l : FlatLife) : Type 0 where
  pub start : Start
  pub begins : Begins (threads_of m) h n start
  pub stands : IsAt m.code start (own (threads_of m) n h) l

-- a thread that waits has begun its branches; those of one that runs have ended
abbrev pub BranchesAre : Module → List Entry → ℕ → Bool → Type 0
BranchesAre m h n true = (i : ℕ) → 0 < i → i ≤ started m h n → (s : Start) × Begins (threads_of m) h (16 * n + i) s
BranchesAre m h n false = (i : ℕ) → 0 < i → i ≤ started m h n → Ended (threads_of m) h (16 * n + i)

-- The lives are those of the threads that live after a history.
pub record AreThreads (m : Module) (h : List Entry) (f : FlatLives) : Type 0 where
  pub lives : (n : ℕ) (l : FlatLife) → f n ≡ Some l → IsInPlace m h n l
  -- a thread that has begun and does not live has ended
  pub gone : (n : ℕ) (s : Start) → f n ≡ None → Begins (threads_of m) h n s → Ended (threads_of m) h n
  pub root : Begins (threads_of m) h 1 (root_start m)
  pub branches : (n : ℕ) (l : FlatLife) → f n ≡ Some l → BranchesAre m h n (is_waiting l.stage)
  -- each but thread 1 was started by its parent's newest entry
  pub parents : (n : ℕ) (l : FlatLife) → f n ≡ Some l → (n ≡ 1 → ⊥) → HasParent f n × (n % 16 ≤ started m h (n / 16))
  pub few : (n : ℕ) → started m h n ≤ 15

abbrev pub Waits : FlatLives → ℕ → Type 0
Waits f n = (l : FlatLife) → f n ≡ Some l → is_waiting l.stage ≡ true → HasBranch f n

-- and each that waits has a branch that lives
pub record AreSettled (m : Module) (h : List Entry) (f : FlatLives) : Type 0 where
  pub threads : AreThreads m h f
  pub waits : (n : ℕ) → Waits f n

-- thread 1 has come to its end with this value of main's; a main without a return has none, which counts as 0
pub record HasValue (m : Module) (h : List Entry) (done : Option ℕ) : Type 0 where
  pub value : Option ℕ
  pub ends : EndsWith m.code (root_start m) (own (threads_of m) 1 h) value
  pub is : done ≡ Some (main_value flat_meaning value)

-- main's value, where thread 1 has ended
pub record IsDone (m : Module) (h : List Entry) (f : FlatLives) (done : Option ℕ) : Type 0 where
  pub lives : (l : FlatLife) → f 1 ≡ Some l → done ≡ None
  pub ended : f 1 ≡ None → HasValue m h done

-- The lives and main's value of a tree are those of the run's threads after a history.
pub record AreInPlace (m : Module) (h : List Entry) (f : FlatLives) (done : Option ℕ) : Type 0 where
  pub settled : AreSettled m h f
  pub main : IsDone m h f done
