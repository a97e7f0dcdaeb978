-- What each entry of a history keeps, whatever came before it: an invariant of lives along a chain of trees.
use Rattle.std.specs.Prelude.{◌≡◌, ℕ, suc, ◌+◌, ◌≤◌, ◌<◌, false, Some, List, length, slice_get}
use Rattle.tac_ir.specs.declared.code.Code.{Code}
use Rattle.tac_ir.specs.declared.code.Instr.{Instr}
use Rattle.tac_thread.specs.declared.want.ReplyOf.{ReplyOf}
use Rattle.tac_thread.specs.Meaning.{Meaning}
use Rattle.tac_thread.specs.Life.{Life, instr_of}
use Rattle.tac_thread.specs.Answered.{answered}
use Rattle.tac_thread.specs.RunsOn.{RunsOn}
use Rattle.tac_thread.specs.Begun.{root_of, branch_of}
use Rattle.tac_thread.specs.Threads.{at_fork, is_waiting}
use Rattle.tree_law.specs.Chain.{Saying}
use Rattle.tree_law.specs.tools.Held.{HoldsOn}

-- a life that becomes another keeps what is said of it
pub record HoldsUnder {V S : Type 0} (R : Life V S → Type 0) (B : Life V S → ℕ → Life V S → Type 0) (l k : Life V S) : Type 0 where
  pub root : R l → R k
  pub branch : (p : Life V S) (i : ℕ) → B p i l → B p i k

-- so does one that forks; its branches begin so, and beyond them there is none
pub record HoldsForked {V S : Type 0} (m : Meaning V S) (c : Code) (R : Life V S → Type 0) (B : Life V S → ℕ → Life V S → Type 0) (E : Life V S → ℕ → Type 0) (l : Life V S) (stacks : List S) : Type 0 where
  pub waits : HoldsUnder R B l (at_fork l)
  pub begins : (i : ℕ) (s : S) (b : Life V S) → slice_get stacks i ≡ Some s → RunsOn m c (branch_of m c l (i + 1) s) b → B (at_fork l) (suc i) b
  pub beyond : (i : ℕ) → length stacks < i → E (at_fork l) i

pub record IsKeptAlong {V S F : Type 0} (m : Meaning V S) (c : Code) (s : S) (say : Saying V S F) (R : Life V S → Type 0) (B : Life V S → ℕ → Life V S → Type 0) (E : Life V S → ℕ → Type 0) : Type 0 where
  pub rule : HoldsOn m c R B E
  pub begins : R (root_of m c s)
  pub answers : (h : List F) (e : F) (n : ℕ) (l : Life V S) (reply : ReplyOf V S) → say.Tells h n l e reply → is_waiting l.stage ≡ false → is_waiting (answered m c l reply).stage ≡ false → HoldsUnder R B l (answered m c l reply)
  pub forks : (h : List F) (e : F) (n : ℕ) (l : Life V S) (stacks : List S) → say.Tells h n l e ReplyOf.Unit → say.Shares l stacks → is_waiting l.stage ≡ false
      → (join : ℕ) (entries : List ℕ) → instr_of c l.top ≡ Instr.Fork join entries → length entries ≡ length stacks → length stacks ≤ 15 → HoldsForked m c R B E l stacks
  pub sticks : (h : List F) (e : F) (n : ℕ) (l : Life V S) → say.Sticks h n l e → is_waiting l.stage ≡ false → HoldsUnder R B l (at_fork l) × ((i : ℕ) → E (at_fork l) i)
