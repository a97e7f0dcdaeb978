-- A guest that runs a thread, and the log of its pass. Lists have the newest entry first.
use Rattle.std.specs.Prelude.{◌≡◌, ℕ, ◌+◌, ◌*◌, ◌<◌, ◌≤◌, List, [], ◌++◌, All}
use Rattle.dfi_base.specs.Names.{Below}
use Rattle.dfi_base.specs.Lives.{own, branches_after, BeginsIn, EndedIn}
use Rattle.tac_ir.specs.declared.run.Entry.{Entry}
use Rattle.tac_ir.specs.Module.{Module}
use Rattle.tac_ir.specs.Path.{Start}
use Rattle.tac_ir.specs.Threads.{threads_of}
use Rattle.path_law.specs.Standing.{FlatLife, IsAt}
use Rattle.merge_law.specs.Logs.{IsLogOf}

-- Between two events: the guest stands where the entries of its own lead, and its branches have ended.
pub record IsAtWork (m : Module) (n : ℕ) (s : Start) (h : List Entry) (l : FlatLife) : Type 0 where
  pub log : IsLogOf m n s h
  pub stands : IsAt m.code s (own (threads_of m) n h) l
  pub joined : (i : ℕ) → 0 < i → i ≤ branches_after (threads_of m) (own (threads_of m) n h) → EndedIn (threads_of m) n s h (16 * n + i)

-- an entry of one of the first j branches of thread n, or of one below it
abbrev pub IsOfBranch : ℕ → ℕ → Entry → Type 0
IsOfBranch n j e = (i : ℕ) × (0 < i) × (i ≤ j) × Below (16 * n + i) e.name.0

-- branch q begins so behind this log of thread n, and has no entry yet
pub record IsBranchOf (m : Module) (n : ℕ) (s : Start) (tail : List Entry) (q : ℕ) (sq : Start) : Type 0 where
  pub begins : BeginsIn (threads_of m) n s tail q sq
  pub none : own (threads_of m) q tail ≡ []

-- Behind its fork, with which the tail begins: the first j branches have ended, and their logs were joined.
pub record IsJoining (m : Module) (n : ℕ) (s : Start) (tail h : List Entry) (l : FlatLife) (j : ℕ) : Type 0 where
  pub log : IsLogOf m n s h
  pub stands : IsAt m.code s (own (threads_of m) n h) l
  pub newer : List Entry
  pub is : h ≡ newer ++ tail
  pub names : All (IsOfBranch n j) newer
  pub gone : (i : ℕ) → 0 < i → i ≤ j → EndedIn (threads_of m) n s h (16 * n + i)
