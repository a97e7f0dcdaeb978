-- The trees of a history over objects are its threads, each told by its own entries.
use Rattle.std.specs.Prelude.{◌≡◌, ℕ, ℤ, Option, Some, None, List}
use Rattle.dfi_base.specs.Lives
use Rattle.dfi_base.specs.Lives.{Begins, Ended, IsNext}
use Rattle.dfi_base.specs.Grown.{IsGrown}
use Rattle.obj_mem.specs.declared.value.Value.{Value}
use Rattle.tac_ir.specs.declared.code.Code.{Code}
use Rattle.tac_ir.specs.GoodForm.{GoodForm}
use Rattle.tac_thread.specs.declared.want.Want.{Want}
use Rattle.tac_thread.specs.Doing.{want_of}
use Rattle.tac_thread.specs.Begun.{root_of}
use Rattle.tac_thread.specs.Threads.{running, IsRunnable}
use Rattle.obj_run.specs.Objects.{object_meaning, main_stack}
use Rattle.obj_run.specs.Entries.{Entry}
use Rattle.obj_run.specs.Starts.{opening}
use Rattle.obj_run.specs.Runs.{ObjLife, ObjLives, IsObjTree}
use Rattle.obj_threads.specs.Threads.{obj_threads, Fits}

-- each entry is by a thread that is next after those before it, and is that of what it wants
abbrev pub IsGrownFrom : Code → List ℤ → List Entry → Type 0
IsGrownFrom c input h = IsGrown (obj_threads c) (Fits c (opening c input)) 1 (root_of object_meaning c main_stack) h

-- thread n is next and wants this, by its own entries
abbrev pub WantsNext : Code → List Entry → ℕ → Want Value → Type 0
WantsNext c h n w = (s : ObjLife) × IsNext (obj_threads c) h n s w

-- These lives are the threads that live after the history: who runs is next, and wants what its life wants; who is runnable runs; and a thread
-- that has begun and does not live has ended.
pub record AreItsThreads (c : Code) (h : List Entry) (f : ObjLives) : Type 0 where
  pub next : (n : ℕ) (l : ObjLife) → running (f n) ≡ Some l → (w : Want Value) × (want_of object_meaning c l ≡ Some w) × WantsNext c h n w
  pub runnable : (n : ℕ) → Lives.IsRunnable (obj_threads c) h n → IsRunnable f n
  pub gone : (n : ℕ) (s : ObjLife) → f n ≡ None → Begins (obj_threads c) h n s → Ended (obj_threads c) h n
  pub lives : (n : ℕ) (l : ObjLife) → f n ≡ Some l → Ended (obj_threads c) h n → ⊥
  pub root : Begins (obj_threads c) h 1 (root_of object_meaning c main_stack)

abbrev pub TreesAreThreads : Type 0
TreesAreThreads = (c : Code) (input : List ℤ) → GoodForm c → (h : List Entry) (f : ObjLives) (d : Option Value) → IsObjTree c input h f d → IsGrownFrom c input h × AreItsThreads c h f

-- and each list that is grown so is a history
abbrev pub GrownHaveTrees : Type 0
GrownHaveTrees = (c : Code) (input : List ℤ) → GoodForm c → (h : List Entry) → IsGrownFrom c input h → (f : ObjLives) × ((d : Option Value) × IsObjTree c input h f d)
