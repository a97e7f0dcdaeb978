-- What is so of the threads of any run.
use Rattle.std.specs.Prelude.{◌≡◌, ℕ, suc, ◌+◌, ◌*◌, ◌^◌, ◌<◌, ◌≤◌, List, [], map, length}
use Rattle.dfi_base.specs.Names.{Below, IsApart, Kin, depth_of}
use Rattle.dfi_base.specs.Lives.{Kind, own, BeginsIn, EndedIn, IsNextIn}
use Rattle.dfi_base.specs.Grown.{GoesOnIn, IsGrown, AreFew, IsLeast}
use Rattle.dfi_base.specs.Joined.{IsJoined}

-- two threads below one are kin
abbrev pub AreKin : Type 0
AreKin = (r n m : ℕ) → Below r n → Below r m → Kin n m

-- two threads that are below different branches of one are apart
abbrev pub BranchesAreApart : Type 0
BranchesAreApart = (p i j n m : ℕ) → (i ≡ j → ⊥) → 0 < i → i ≤ 15 → 0 < j → j ≤ 15 → Below (16 * p + i) n → Below (16 * p + j) m → IsApart n m

-- A branch is one deeper than its parent; who is 14 deep has a name from 2 ^ 56 on, and no other; and those below thread 1 that are no deeper
-- have names below 2 ^ 57.
pub record DepthIsByName : Type 0 where
  pub branch : (n i : ℕ) → 0 < n → n < 2 ^ 64 → i ≤ 15 → depth_of (16 * n + i) ≡ suc (depth_of n)
  pub deep : (n : ℕ) → 14 ≤ depth_of n → 2 ^ 56 ≤ n
  pub far : (n : ℕ) → 2 ^ 56 ≤ n → 14 ≤ depth_of n
  pub small : (n : ℕ) → Below 1 n → depth_of n ≤ 14 → n < 2 ^ 57

-- A life begins in one way and wants one thing, and who is next has not ended.
pub record LivesAreOne {E S W : Type 0} (k : Kind E S W) : Type 0 where
  pub begins : (r : ℕ) (s0 : S) (h : List E) (n : ℕ) (s t : S) → BeginsIn k r s0 h n s → BeginsIn k r s0 h n t → s ≡ t
  pub wants : (r : ℕ) (s0 : S) (h : List E) (n : ℕ) (s t : S) (w v : W) → IsNextIn k r s0 h n s w → IsNextIn k r s0 h n t v → w ≡ v
  pub lives : (r : ℕ) (s0 : S) (h : List E) (n : ℕ) (s : S) (w : W) → IsNextIn k r s0 h n s w → EndedIn k r s0 h n → ⊥

-- The first thread lives wherever somebody is next.
abbrev pub FirstLives : {E S W : Type 0} → Kind E S W → (List E → W → E → Type 0) → Type 0
FirstLives {E} {S} {W} k Fits =
    (r : ℕ) (s0 : S) (h : List E) (n : ℕ) (s : S) (w : W) → IsGrown k Fits r s0 h → AreFew k h → IsNextIn k r s0 h n s w → EndedIn k r s0 h r → ⊥

-- Histories of the same names are the same, and so are those of one length along the least names; a longer one of these goes on from the shorter.
pub record RunsAreOne {E S W : Type 0} (k : Kind E S W) (Fits : List E → W → E → Type 0) : Type 0 where
  pub along : (r : ℕ) (s0 : S) (xs ys : List E) → map k.name_of xs ≡ map k.name_of ys → IsGrown k Fits r s0 xs → IsGrown k Fits r s0 ys → xs ≡ ys
  pub least : (r : ℕ) (s0 : S) (xs ys : List E) → length xs ≡ length ys → IsGrown k Fits r s0 xs → IsGrown k Fits r s0 ys
      → IsLeast k r s0 xs → IsLeast k r s0 ys → xs ≡ ys
  pub longer : (r : ℕ) (s0 : S) (xs ys : List E) → length xs < length ys → IsGrown k Fits r s0 xs → IsGrown k Fits r s0 ys
      → IsLeast k r s0 xs → IsLeast k r s0 ys → (e : E) × GoesOnIn k Fits r s0 xs e

-- A branch's history, joined into its parent's behind its fork, makes one that is grown.
abbrev pub JoinIsGrown : {E S W : Type 0} → Kind E S W → (W → E → Type 0) → Type 0
JoinIsGrown {E} {S} {W} k Fits =
    (r q : ℕ) (s0 sq : S) (tail whole rest part : List E) → BeginsIn k r s0 tail q sq → own k q tail ≡ [] → IsJoined k q tail whole rest part
    → AreFew k rest → IsGrown k (λ h. Fits) r s0 rest → IsGrown k (λ h. Fits) q sq part → IsGrown k (λ h. Fits) r s0 whole

-- Where what lives of one kind do those of another do that begin alike, so do their threads: who has ended there has ended here, who is
-- next there is next here, and what is grown there is grown here.
pub record ThreadsAreAlike {E S T W : Type 0} (k : Kind E S W) (l : Kind E T W) (Fits : List E → W → E → Type 0) (r : ℕ) (s0 : S) (t0 : T) : Type 0 where
  pub ended : (h : List E) (n : ℕ) → EndedIn k r s0 h n → EndedIn l r t0 h n
  pub next : (h : List E) (n : ℕ) (s : S) (w : W) → IsNextIn k r s0 h n s w → (t : T) × IsNextIn l r t0 h n t w
  pub grown : (h : List E) → IsGrown k Fits r s0 h → IsGrown l Fits r t0 h
