-- The threads of a tree over objects, and those of the run.
use Rattle.std.specs.Prelude.{◌≡◌, ℕ, ◌+◌, ◌*◌, ◌/◌, ◌%◌, ◌<◌, ◌≤◌, ◌⊎◌, Bool, true, false, Some, None, List, ◌∷◌}
use Rattle.dfi_base.specs.Lives.{own, Begins, branches_after, Ended}
use Rattle.tac_ir.specs.declared.code.Code.{Code}
use Rattle.tac_ir.specs.declared.code.Instr.{Instr}
use Rattle.tac_thread.specs.Life.{instr_of}
use Rattle.tac_thread.specs.Begun.{root_of}
use Rattle.tac_thread.specs.Threads.{is_waiting, HasBranch, HasParent, at_fork}
use Rattle.obj_run.specs.Objects.{object_meaning, main_stack}
use Rattle.obj_run.specs.Entries.{Entry}
use Rattle.obj_run.specs.tools.SoFar.{fork_in}
use Rattle.obj_run.specs.Runs.{ObjLife, ObjLives, is_too_deep}
use Rattle.obj_threads.specs.Threads.{LeadsTo, obj_threads}

-- A life is where its own entries lead, or waits at the fork of the newest.
pub data IsAt (c : Code) (s : ObjLife) (own : List Entry) (l : ObjLife) : Type 0 where
  rests : LeadsTo c s own l → IsAt c s own l
  waits : (e : Entry) (rest : List Entry) (k : ObjLife) (branches join : ℕ) (entries : List ℕ) → own ≡ e ∷ rest → LeadsTo c s rest k → is_waiting k.stage ≡ false → fork_in e.stamp.event ≡ Some branches
      → is_too_deep e.stamp.name.0 e.stamp.event ≡ false → instr_of c k.top ≡ Instr.Fork join entries → l ≡ at_fork k → IsAt c s own l

-- how many branches the newest entry of thread n started
abbrev pub started : Code → List Entry → ℕ → ℕ
started c h n = branches_after (obj_threads c) (own (obj_threads c) n h)

-- this is the life of thread n after a history
pub record IsInPlace (c : Code) (h : List Entry) (n : ℕ) (l : ObjLife) : Type 0 where
  pub start : ObjLife
  pub begins : Begins (obj_threads c) h n start
  pub stands : IsAt c start (own (obj_threads c) n h) l

-- a thread that waits has begun its branches; those of one that runs have ended
abbrev pub BranchesAre : Code → List Entry → ℕ → Bool → Type 0
BranchesAre c h n true = (i : ℕ) → 0 < i → i ≤ started c h n → (s : ObjLife) × Begins (obj_threads c) h (16 * n + i) s
BranchesAre c h n false = (i : ℕ) → 0 < i → i ≤ started c h n → Ended (obj_threads c) h (16 * n + i)

-- The lives are those of the threads that live after a history.
pub record AreThreads (c : Code) (h : List Entry) (f : ObjLives) : Type 0 where
  pub lives : (n : ℕ) (l : ObjLife) → f n ≡ Some l → IsInPlace c h n l
  -- a thread that has begun and does not live has ended
  pub gone : (n : ℕ) (s : ObjLife) → f n ≡ None → Begins (obj_threads c) h n s → Ended (obj_threads c) h n
  pub root : Begins (obj_threads c) h 1 (root_of object_meaning c main_stack)
  pub branches : (n : ℕ) (l : ObjLife) → f n ≡ Some l → BranchesAre c h n (is_waiting l.stage)
  -- each but thread 1 was started by its parent's newest entry
  pub parents : (n : ℕ) (l : ObjLife) → f n ≡ Some l → (n ≡ 1 → ⊥) → HasParent f n × (n % 16 ≤ started c h (n / 16))
  pub few : (n : ℕ) → started c h n ≤ 15

-- its newest entry was a fork that was too deep
abbrev pub HasStuck : Code → List Entry → ℕ → Type 0
HasStuck c h n = (e : Entry) × ((rest : List Entry) × (own (obj_threads c) n h ≡ e ∷ rest) × (is_too_deep e.stamp.name.0 e.stamp.event ≡ true))

abbrev pub Waits : Code → List Entry → ObjLives → ℕ → Type 0
Waits c h f n = (l : ObjLife) → f n ≡ Some l → is_waiting l.stage ≡ true → HasBranch f n ⊎ HasStuck c h n

-- and each that waits has a branch that lives, or waits for good
pub record AreSettled (c : Code) (h : List Entry) (f : ObjLives) : Type 0 where
  pub threads : AreThreads c h f
  pub waits : (n : ℕ) → Waits c h f n
