-- Histories grown from their first thread on: each entry is by a thread that is next after those before it.
use Rattle.std.specs.Prelude.{ℕ, ◌<◌, ◌≤◌, List, [], ◌∷◌}
use Rattle.dfi_base.specs.Lives.{Kind, IsNextIn, IsRunnableIn}

-- this entry is by a thread that is next after h, and fits what it wants; Fits says which entries do, after which history
pub record GoesOnIn {E S W : Type 0} (k : Kind E S W) (Fits : List E → W → E → Type 0) (r : ℕ) (s0 : S) (h : List E) (e : E) : Type 0 where
  pub start : S
  pub want : W
  pub next : IsNextIn k r s0 h (k.name_of e) start want
  pub fits : Fits h want e

-- each entry of the history is so, where thread r is the first, and began as s0
unfoldable pub IsGrown : {E S W : Type 0} → Kind E S W → (List E → W → E → Type 0) → ℕ → S → List E → Type 0
IsGrown k Fits r s0 [] = Unit {0}
IsGrown k Fits r s0 (e ∷ h) = GoesOnIn k Fits r s0 h e × IsGrown k Fits r s0 h

-- no entry starts more than 15 branches, so that no two threads have one name
unfoldable pub AreFew : {E S W : Type 0} → Kind E S W → List E → Type 0
AreFew k [] = Unit {0}
AreFew k (e ∷ h) = (k.branches_of e ≤ 15) × AreFew k h

-- each entry is by the least name that goes on
unfoldable pub IsLeast : {E S W : Type 0} → Kind E S W → ℕ → S → List E → Type 0
IsLeast k r s0 [] = Unit {0}
IsLeast k r s0 (e ∷ h) = ((n : ℕ) → n < k.name_of e → IsRunnableIn k r s0 h n → ⊥) × IsLeast k r s0 h
