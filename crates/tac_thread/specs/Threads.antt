-- All threads of a run, by name.
use Rattle.std.specs.Prelude.{◌≡◌, ℕ, suc, IsTrue, nat_le, [], ◌∷◌, length, slice_get, ◌+◌, ◌*◌, ◌/◌, ◌%◌, ◌≤◌, ◌<◌, Bool, true, false, cond, Option, Some, None, List}
use Rattle.std.specs.Ordering.{nat_cmp}
use Rattle.std.specs.BTreeMap.{is_at}
use Rattle.std.specs.Map.{lookup}
use Rattle.dfi_base.specs.declared.numbers.Name.{Name}
use Rattle.dfi_base.specs.declared.numbers.Point.{Point}
use Rattle.tac_ir.specs.declared.code.Code.{Code}
use Rattle.tac_thread.specs.declared.guest.Stage.{Stage}
use Rattle.tac_thread.specs.declared.want.Want.{Want}
use Rattle.tac_thread.specs.declared.want.ReplyOf.{ReplyOf}
use Rattle.tac_thread.specs.Meaning.{Meaning}
use Rattle.tac_thread.specs.Life.{Life, zero_of, with_stage}
use Rattle.tac_thread.specs.Doing.{want_of}
use Rattle.tac_thread.specs.Answered.{answered, joined, IsReplyTo}
use Rattle.tac_thread.specs.RunsOn.{RunsOn}
use Rattle.tac_thread.specs.Begun.{root_of, branch_of}
use Rattle.tac_ir.specs.Answers.{depth_of}
use Rattle.tac_thread.specs.Guests.{IsGuestOf}

-- the threads that live, each with its name, and main's value where thread 1 has ended
pub record Threads (V S : Type 0) : Type 0 where
  pub lives : List (ℕ × Life V S)
  pub done : Option V

-- the thread of each name, where it lives
abbrev pub Lives : (V S : Type 0) → Type 0
Lives V S = ℕ → Option (Life V S)

abbrev pub life_in : {V S : Type 0} → Threads V S → ℕ → Option (Life V S)
life_in t n = lookup (is_at (nat_cmp n)) t.lives

-- a thread runs where it lives and waits for no branches of its own
abbrev pub is_waiting : {V S : Type 0} → Stage V S → Bool
is_waiting Stage.Waiting = true
is_waiting stage = false

abbrev pub running : {V S : Type 0} → Option (Life V S) → Option (Life V S)
running None = None
running (Some l) = elim (is_waiting l.stage) [ true ↦ None | false ↦ Some l ]

abbrev pub IsRunnable : {V S : Type 0} → Lives V S → ℕ → Type 0
IsRunnable {V} {S} f n = (l : Life V S) × (running (f n) ≡ Some l)

-- what a runnable thread wants next
abbrev pub want_of_life : {V S : Type 0} → Meaning V S → Code → Option (Life V S) → Option (Want V)
want_of_life m c None = None
want_of_life m c (Some l) = want_of m c l

abbrev pub next_in : {V S : Type 0} → Meaning V S → Code → Lives V S → ℕ → Option (Want V)
next_in m c f n = want_of_life m c (running (f n))

-- the least name of a runnable thread, where there is one
abbrev pub IsLeastOf : {V S : Type 0} → Lives V S → Option ℕ → Type 0
IsLeastOf f None = (n : ℕ) → IsRunnable f n → ⊥
IsLeastOf f (Some n) = IsRunnable f n × ((k : ℕ) → k < n → IsRunnable f k → ⊥)

abbrev pub name_number : Name → ℕ
name_number name = name.0

-- where a thread stands
abbrev pub point_of : {V S : Type 0} → Life V S → Point
point_of l = record { fun = l.top.fun; at = l.top.at }

abbrev pub stack_of : {V S : Type 0} → Life V S → S
stack_of l = l.top.stack

-- Changes.

-- the threads with another one of this name, or none
abbrev pub changed : {V S : Type 0} → Lives V S → ℕ → Option (Life V S) → Lives V S
changed f n l k = cond (is_at (nat_cmp n) k) l (f k)

-- whether branches of thread n live
abbrev pub HasBranch : {V S : Type 0} → Lives V S → ℕ → Type 0
HasBranch {V} {S} f n = (i : ℕ) × (1 ≤ i) × (i ≤ 15) × ((l : Life V S) × (f (16 * n + i) ≡ Some l))

-- what a thread ended with
abbrev pub end_in : {V : Type 0} → Option (Want V) → Option (Option V)
end_in (Some (Want.Ended v)) = Some v
end_in want = None

abbrev pub ended_of : {V S : Type 0} → Meaning V S → Code → Option (Life V S) → Option (Option V)
ended_of m c None = None
ended_of m c (Some l) = end_in (want_of m c l)

-- main's value; main ends by its return, which has one
abbrev pub main_value : {V S : Type 0} → Meaning V S → Option V → V
main_value m None = zero_of m
main_value m (Some v) = v

-- Thread n came to where it stands: where it has ended, it lives no more, and its parent goes on where that was its last branch.
-- The threads f with the value d of main become g with e.
pub data Settles {V S : Type 0} (m : Meaning V S) (c : Code) : ℕ → Lives V S → Option V → Lives V S → Option V → Type 0 where
  goes_on : (n : ℕ) (f : Lives V S) (d : Option V) → ended_of m c (f n) ≡ None → Settles m c n f d f d
  main_ends : (f g : Lives V S) (d v : Option V) → ended_of m c (f 1) ≡ Some v → ((k : ℕ) → g k ≡ changed f 1 None k) → Settles m c 1 f d g (Some (main_value m v))
  others_live : (n : ℕ) (f g : Lives V S) (d v : Option V) → (n ≡ 1 → ⊥) → ended_of m c (f n) ≡ Some v → ((k : ℕ) → g k ≡ changed f n None k)
      → HasBranch g (n / 16) → Settles m c n f d g d
  joins : (n : ℕ) (f g h last : Lives V S) (d v e : Option V) (p q : Life V S) → (n ≡ 1 → ⊥) → ended_of m c (f n) ≡ Some v → ((k : ℕ) → g k ≡ changed f n None k)
      → (HasBranch g (n / 16) → ⊥) → g (n / 16) ≡ Some p → RunsOn m c (joined c p) q → ((k : ℕ) → h k ≡ changed g (n / 16) (Some q) k)
      → Settles m c (n / 16) h d last e → Settles m c n f d last e

-- A thread without branches that waited for them goes on.
pub data Resumes {V S : Type 0} (m : Meaning V S) (c : Code) : ℕ → Lives V S → Option V → Lives V S → Option V → Type 0 where
  some_live : (n : ℕ) (f : Lives V S) (d : Option V) → HasBranch f n → Resumes m c n f d f d
  none_lives : (n : ℕ) (f h last : Lives V S) (d e : Option V) (p q : Life V S) → (HasBranch f n → ⊥) → f n ≡ Some p → RunsOn m c (joined c p) q
      → ((k : ℕ) → h k ≡ changed f n (Some q) k) → Settles m c n h d last e → Resumes m c n f d last e

-- A thread takes an answer, and what follows from where it comes to.
pub record IsFed {V S : Type 0} (m : Meaning V S) (c : Code) (f : Lives V S) (d : Option V) (n : ℕ) (reply : ReplyOf V S) (g : Lives V S) (e : Option V) : Type 0 where
  pub life : Life V S
  pub lived : f n ≡ Some life
  pub next : Life V S
  pub runs : RunsOn m c (answered m c life reply) next
  pub lives : Lives V S
  pub changes : (k : ℕ) → lives k ≡ changed f n (Some next) k
  pub settles : Settles m c n lives d g e

-- the parent of a branch waits for it
abbrev pub HasParent : {V S : Type 0} → Lives V S → ℕ → Type 0
HasParent {V} {S} f n = (0 < n % 16) × ((p : Life V S) × (f (n / 16) ≡ Some p) × (is_waiting p.stage ≡ true))

-- What the threads of a run keep: each is a guest of the code, and each but thread 1 is a branch of a thread that waits.
pub record AreGuests {V S : Type 0} (m : Meaning V S) (c : Code) (f : Lives V S) : Type 0 where
  pub guests : (n : ℕ) (l : Life V S) → f n ≡ Some l → IsGuestOf m c l
  pub parents : (n : ℕ) (l : Life V S) → f n ≡ Some l → (n ≡ 1 → ⊥) → HasParent f n

-- and none has come to its end
pub record IsTree {V S : Type 0} (m : Meaning V S) (c : Code) (f : Lives V S) : Type 0 where
  pub threads : AreGuests m c f
  pub going : (n : ℕ) → ended_of m c (f n) ≡ None

-- no thread but n may have ended
pub record IsSettling {V S : Type 0} (m : Meaning V S) (c : Code) (n : ℕ) (f : Lives V S) : Type 0 where
  pub threads : AreGuests m c f
  pub going : (k : ℕ) → (k ≡ n → ⊥) → ended_of m c (f k) ≡ None

-- the answer is of the kind that the next event of the runnable thread n has, which is no fork
pub record Takes {V S : Type 0} (m : Meaning V S) (c : Code) (f : Lives V S) (n : ℕ) (reply : ReplyOf V S) : Type 0 where
  pub want : Want V
  pub wants : next_in m c f n ≡ Some want
  pub kind : IsReplyTo m c want reply
  pub no_fork : (branches : ℕ) → want ≡ Want.Fork branches → ⊥

-- the same threads live, each as it was
pub record IsSame {V S : Type 0} (s t : Threads V S) : Type 0 where
  pub lives : (n : ℕ) → life_in t n ≡ life_in s n
  pub done : t.done ≡ s.done

-- Forks.

-- a thread at its fork, which waits
abbrev pub at_fork : {V S : Type 0} → Life V S → Life V S
at_fork l = with_stage l Stage.Waiting

-- these are the branches of a thread with these stacks, each at its first event
pub record AreBranches {V S : Type 0} (m : Meaning V S) (c : Code) (l : Life V S) (stacks : List S) (branches : List (Life V S)) : Type 0 where
  pub count : length branches ≡ length stacks
  pub each : (i : ℕ) (s : S) (b : Life V S) → slice_get stacks i ≡ Some s → slice_get branches i ≡ Some b → RunsOn m c (branch_of m c l (i + 1) s) b

-- a branch of this name lives, where it has not come to its end at once
abbrev pub with_branch : {V S : Type 0} → Meaning V S → Code → Lives V S → ℕ → Life V S → Lives V S
with_branch m c f n b = elim (ended_of m c (Some b)) [ None ↦ changed f n (Some b) | Some v ↦ f ]

-- with these branches of thread n, from branch i on
abbrev pub planted : {V S : Type 0} → Meaning V S → Code → Lives V S → ℕ → ℕ → List (Life V S) → Lives V S
planted m c f n i [] = f
planted m c f n i (b ∷ branches) = planted m c (with_branch m c f (16 * n + i) b) n (suc i) branches

-- a thread forks: its branches live, and it waits for them
pub record IsForked {V S : Type 0} (m : Meaning V S) (c : Code) (f : Lives V S) (d : Option V) (n : ℕ) (stacks : List S) (g : Lives V S) (e : Option V) : Type 0 where
  pub life : Life V S
  pub lived : f n ≡ Some life
  pub branches : List (Life V S)
  pub begin : AreBranches m c life stacks branches
  pub lives : Lives V S
  pub changes : (k : ℕ) → lives k ≡ changed (planted m c f n 1 branches) n (Some (at_fork life)) k
  pub resumes : Resumes m c n lives d g e

-- a thread that is 14 deep makes no branches, and waits for good
pub record IsStuck {V S : Type 0} (f : Lives V S) (d : Option V) (n : ℕ) (g : Lives V S) (e : Option V) : Type 0 where
  pub life : Life V S
  pub lived : f n ≡ Some life
  pub changes : (k : ℕ) → g k ≡ changed f n (Some (at_fork life)) k
  pub done : e ≡ d

-- by whether it is so deep
abbrev pub ForksBy : {V S : Type 0} → Meaning V S → Code → Lives V S → Option V → ℕ → List S → Lives V S → Option V → Bool → Type 0
ForksBy m c f d n stacks g e true = IsStuck f d n g e
ForksBy m c f d n stacks g e false = IsForked m c f d n stacks g e

abbrev pub Forks : {V S : Type 0} → Meaning V S → Code → Lives V S → Option V → ℕ → List S → Lives V S → Option V → Type 0
Forks m c f d n stacks g e = ForksBy m c f d n stacks g e (nat_le 14 (depth_of n))

-- the runnable thread n wants to fork into as many branches as there are stacks, each of which has the frame of its function
pub record TakesStacks {V S : Type 0} (m : Meaning V S) (c : Code) (f : Lives V S) (n : ℕ) (stacks : List S) : Type 0 where
  pub wants : next_in m c f n ≡ Some (Want.Fork (length stacks))
  pub framed : (l : Life V S) (i : ℕ) (s : S) → f n ≡ Some l → slice_get stacks i ≡ Some s → IsTrue (m.has_frame c l.top.fun s)

-- The beginning.

abbrev pub nobody : {V S : Type 0} → Lives V S
nobody k = None

-- thread 1 alone lives, and what follows where it has ended at once
pub record IsBegun {V S : Type 0} (m : Meaning V S) (c : Code) (s : S) (g : Lives V S) (e : Option V) : Type 0 where
  pub root : Life V S
  pub runs : RunsOn m c (root_of m c s) root
  pub lives : Lives V S
  pub changes : (k : ℕ) → lives k ≡ changed nobody 1 (Some root) k
  pub settles : Settles m c 1 lives None g e
