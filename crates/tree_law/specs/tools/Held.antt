-- What a tree of threads keeps: something of thread 1, of each branch against its parent that waits for it, and of each branch that lives no more.
use Rattle.std.specs.Prelude.{◌≡◌, ℕ, ◌+◌, ◌*◌, ◌/◌, ◌%◌, ◌≤◌, ◌<◌, true, false, Option, Some, None}
use Rattle.tac_ir.specs.declared.code.Code.{Code}
use Rattle.tac_thread.specs.Meaning.{Meaning}
use Rattle.tac_thread.specs.Life.{Life}
use Rattle.tac_thread.specs.Answered.{joined}
use Rattle.tac_thread.specs.RunsOn.{RunsOn}
use Rattle.tac_thread.specs.Threads.{Lives, ended_of, is_waiting}

-- branch i of thread n lives no more, or there is none
abbrev pub EndedAll : {V S : Type 0} → (Life V S → ℕ → Type 0) → Lives V S → Type 0
EndedAll {V} {S} E f = (n : ℕ) (p : Life V S) (i : ℕ) → 1 ≤ n → 1 ≤ i → i ≤ 15 → f n ≡ Some p → f (16 * n + i) ≡ None → E p i

pub record AreHeld {V S : Type 0} (R : Life V S → Type 0) (B : Life V S → ℕ → Life V S → Type 0) (E : Life V S → ℕ → Type 0) (f : Lives V S) : Type 0 where
  pub root : (l : Life V S) → f 1 ≡ Some l → R l
  pub branches : (n : ℕ) (p l : Life V S) → 0 < n % 16 → (n ≡ 1 → ⊥) → f n ≡ Some l → f (n / 16) ≡ Some p → B p (n % 16) l
  pub ended : EndedAll E f
  pub named : (n : ℕ) (l : Life V S) → f n ≡ Some l → (n ≡ 1 → ⊥) → 0 < n % 16

pub record HoldsOn {V S : Type 0} (m : Meaning V S) (c : Code) (R : Life V S → Type 0) (B : Life V S → ℕ → Life V S → Type 0) (E : Life V S → ℕ → Type 0) : Type 0 where
  pub root_runs : (l k : Life V S) → R l → RunsOn m c l k → R k
  pub branch_runs : (p l k : Life V S) (i : ℕ) → B p i l → RunsOn m c l k → B p i k
  pub root_joins : (l : Life V S) → R l → is_waiting l.stage ≡ true → ((i : ℕ) → 1 ≤ i → i ≤ 15 → E l i) → R (joined c l)
  pub branch_joins : (p l : Life V S) (i : ℕ) → B p i l → is_waiting l.stage ≡ true → ((i : ℕ) → 1 ≤ i → i ≤ 15 → E l i) → B p i (joined c l)
  pub branch_ends : (p l : Life V S) (i : ℕ) (v : Option V) → B p i l → ended_of m c (Some l) ≡ Some v → E p i
  -- a parent of a branch waits, and one that does not has nothing to say of branches
  pub waits : (p l : Life V S) (i : ℕ) → B p i l → is_waiting p.stage ≡ true
  pub awake : (p : Life V S) (i : ℕ) → is_waiting p.stage ≡ false → E p i
  pub rested : (p q : Life V S) → is_waiting p.stage ≡ true → RunsOn m c (joined c p) q → (i : ℕ) → ((i : ℕ) → 1 ≤ i → i ≤ 15 → E p i) → E q i

pub record HoldsIn {V S : Type 0} (R : Life V S → Type 0) (B : Life V S → ℕ → Life V S → Type 0) (E : Life V S → ℕ → Type 0) (l k : Life V S) : Type 0 where
  pub root : R l → R k
  pub branch : (p : Life V S) (i : ℕ) → B p i l → B p i k
  pub ended : (i : ℕ) → E k i
