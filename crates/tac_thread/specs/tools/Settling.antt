-- Steps of the way on which threads end and join: tools of the proof.
use Rattle.std.specs.Prelude.{◌≡◌, ℕ, ◌+◌, ◌*◌, ◌/◌, ◌<◌, ◌≤◌, length, slice_get, true, false, Option, Some, None, List, [], ◌∷◌}
use Rattle.tac_ir.specs.declared.code.Code.{Code}
use Rattle.tac_thread.specs.declared.want.ReplyOf.{ReplyOf}
use Rattle.tac_thread.specs.Meaning.{Meaning}
use Rattle.tac_thread.specs.Life.{Life}
use Rattle.tac_thread.specs.Answered.{answered, joined}
use Rattle.tac_thread.specs.RunsOn.{RunsOn}
use Rattle.tac_thread.specs.Guests.{IsGuestOf}
use Rattle.tac_thread.specs.Threads.{Lives, is_waiting, HasBranch, changed, IsSettling, Settles, AreBranches, planted}

-- thread n took an answer and ran on, and no other changed
pub record IsStepped {V S : Type 0} (m : Meaning V S) (c : Code) (f : Lives V S) (n : ℕ) (reply : ReplyOf V S) (g : Lives V S) : Type 0 where
  pub life : Life V S
  pub lived : f n ≡ Some life
  pub next : Life V S
  pub runs : RunsOn m c (answered m c life reply) next
  pub guest : IsGuestOf m c next
  pub changes : (k : ℕ) → g k ≡ changed f n (Some next) k

abbrev pub IsWaiting : {V S : Type 0} → Meaning V S → Code → Option (Life V S) → Type 0
IsWaiting {V} {S} m c l = (p : Life V S) × (l ≡ Some p) × (is_waiting p.stage ≡ true) × IsGuestOf m c p

-- thread n went on behind its fork, and no other changed
pub record IsJoined {V S : Type 0} (m : Meaning V S) (c : Code) (f : Lives V S) (n : ℕ) (g : Lives V S) : Type 0 where
  pub life : Life V S
  pub lived : f n ≡ Some life
  pub next : Life V S
  pub runs : RunsOn m c (joined c life) next
  pub guest : IsGuestOf m c next
  pub changes : (k : ℕ) → g k ≡ changed f n (Some next) k

-- thread n ended, and its parent went on; what settles from there settles from here
pub record IsClosed {V S : Type 0} (m : Meaning V S) (c : Code) (n : ℕ) (f : Lives V S) (d : Option V) (g : Lives V S) (e : Option V) : Type 0 where
  pub threads : IsSettling m c (n / 16) g
  pub settles : (last : Lives V S) (done : Option V) → Settles m c (n / 16) g e last done → Settles m c n f d last done
  pub less : n / 16 < n

-- the first name in a list of threads that runs
abbrev pub first_running : {V S : Type 0} → List (ℕ × Life V S) → Option ℕ
first_running [] = None
first_running (e ∷ rest) = elim (is_waiting e.1.stage) [ true ↦ first_running rest | false ↦ Some e.0 ]

-- Forks.

-- these are the branches of the thread with these stacks, and guests
pub record ArePlantable {V S : Type 0} (m : Meaning V S) (c : Code) (o : Option (Life V S)) (stacks : List S) (branches : List (Life V S)) : Type 0 where
  pub life : Life V S
  pub lived : o ≡ Some life
  pub begin : AreBranches m c life stacks branches
  pub guests : (i : ℕ) (b : Life V S) → slice_get branches i ≡ Some b → IsGuestOf m c b

-- thread n has no branches, and these are few guests
pub record IsFreeFor {V S : Type 0} (m : Meaning V S) (c : Code) (f : Lives V S) (n : ℕ) (branches : List (Life V S)) : Type 0 where
  pub few : length branches ≤ 15
  pub free : HasBranch f n → ⊥
  pub guests : (i : ℕ) (b : Life V S) → slice_get branches i ≡ Some b → IsGuestOf m c b

-- k is no branch of thread n
abbrev pub IsApart : ℕ → ℕ → Type 0
IsApart n k = (i : ℕ) → 1 ≤ i → i ≤ 15 → k ≡ 16 * n + i → ⊥

-- the threads so far, with those that are still to be planted from branch i on, are all of them
pub record IsPlanting {V S : Type 0} (m : Meaning V S) (c : Code) (f : Lives V S) (n : ℕ) (all : List (Life V S)) (i : ℕ) (rest : List (Life V S)) (g : Lives V S) : Type 0 where
  pub low : 1 ≤ i
  pub count : i + length rest ≡ length all + 1
  pub planted_is : (k : ℕ) → planted m c g n i rest k ≡ planted m c f n 1 all k
  pub others : (k : ℕ) → IsApart n k → g k ≡ f k
  pub guests : (j : ℕ) (b : Life V S) → slice_get rest j ≡ Some b → IsGuestOf m c b
