-- The tree of threads of a run, whatever the run is about. A thread is named by a number: branch i of thread n is 16n + i. A name may live
-- more than once: each fork of its parent begins a life of it. A history is a list of entries, the newest first. It is told from its first
-- thread on: a run begins with thread 1, and the entries of one thread and of those below it are a history by themselves.
use Rattle.std.specs.Prelude.{◌≡◌, ℕ, ◌+◌, ◌*◌, ◌/◌, ◌%◌, ◌<◌, ◌≤◌, Bool, true, false, ◌&&◌, nat_eq, nat_lt, nat_le, List, [], ◌∷◌}

-- What one life of a thread does. E is an entry, S says how a life begins, W is what a thread wants to do next.
pub record Kind (E S W : Type 0) : Type 1 where
  pub name_of : E → ℕ
  -- how many branches an entry starts
  pub branches_of : E → ℕ
  -- how the life of thread 1 begins
  pub root : S
  -- how the life of the thread of this name begins, where its parent, which began so, forks after these entries of its own
  pub Branch : S → List E → ℕ → S → Type 0
  -- after these entries of its own a life that began so wants this
  pub Wants : S → List E → W → Type 0
  -- after these entries of its own a life that began so has come to its end
  pub Stops : S → List E → Type 0

-- whether an entry starts a life of thread n
abbrev pub is_start_of : {E S W : Type 0} → Kind E S W → ℕ → E → Bool
is_start_of k n e = nat_eq (k.name_of e) (n / 16) && (nat_lt 0 (n % 16) && nat_le (n % 16) (k.branches_of e))

-- the entries of thread n since its last start
unfoldable pub own : {E S W : Type 0} → Kind E S W → ℕ → List E → List E
own k n [] = []
own k n (e ∷ h) =
    elim (is_start_of k n e) [ true ↦ [] | false ↦ elim (nat_eq (k.name_of e) n) [ true ↦ e ∷ own k n h | false ↦ own k n h ] ]

-- the branches that a thread's last entry started
abbrev pub branches_after : {E S W : Type 0} → Kind E S W → List E → ℕ
branches_after k [] = 0
branches_after k (e ∷ own) = k.branches_of e

-- Where thread r is the first, and began as s0.

-- the life of thread n began so
unfoldable pub BeginsIn : {E S W : Type 0} → Kind E S W → ℕ → S → List E → ℕ → S → Type 0
BeginsIn k r s0 [] n s = (n ≡ r) × (s ≡ s0)
BeginsIn {E} {S} {W} k r s0 (e ∷ h) n s =
    elim (is_start_of k n e) [
      | false ↦ BeginsIn k r s0 h n s
      | true ↦ (parent : S) × BeginsIn k r s0 h (n / 16) parent × k.Branch parent (own k (n / 16) h) n s
    ]

-- thread n has lived, and it and all its branches have come to their ends
pub data EndedIn {E S W : Type 0} (k : Kind E S W) (r : ℕ) (s0 : S) (h : List E) : ℕ → Type 0 where
  ended : (n : ℕ) (s : S) → BeginsIn k r s0 h n s → k.Stops s (own k n h)
      → ((i : ℕ) → 0 < i → i ≤ branches_after k (own k n h) → EndedIn k r s0 h (16 * n + i)) → EndedIn k r s0 h n

-- thread n lives, none of its branches does, and it wants this next
pub record IsNextIn {E S W : Type 0} (k : Kind E S W) (r : ℕ) (s0 : S) (h : List E) (n : ℕ) (s : S) (w : W) : Type 0 where
  pub begins : BeginsIn k r s0 h n s
  pub wants : k.Wants s (own k n h) w
  pub joined : (i : ℕ) → 0 < i → i ≤ branches_after k (own k n h) → EndedIn k r s0 h (16 * n + i)

-- thread n lives, none of its branches does, and it goes on
abbrev pub IsRunnableIn : {E S W : Type 0} → Kind E S W → ℕ → S → List E → ℕ → Type 0
IsRunnableIn {E} {S} {W} k r s0 h n = (s : S) × (w : W) × IsNextIn k r s0 h n s w

-- In a whole run, whose first thread is 1.

abbrev pub Begins : {E S W : Type 0} → Kind E S W → List E → ℕ → S → Type 0
Begins k h n s = BeginsIn k 1 k.root h n s

abbrev pub Ended : {E S W : Type 0} → Kind E S W → List E → ℕ → Type 0
Ended k h n = EndedIn k 1 k.root h n

abbrev pub IsNext : {E S W : Type 0} → Kind E S W → List E → ℕ → S → W → Type 0
IsNext k h n s w = IsNextIn k 1 k.root h n s w

abbrev pub IsRunnable : {E S W : Type 0} → Kind E S W → List E → ℕ → Type 0
IsRunnable k h n = IsRunnableIn k 1 k.root h n
