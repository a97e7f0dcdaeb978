-- Lives that do one thing, and lives that do the same.
use Rattle.std.specs.Prelude.{◌≡◌, ℕ, List}
use Rattle.dfi_base.specs.Lives.{Kind}

-- a branch begins in one way, a life wants one thing, and what has come to its end wants nothing
pub record IsDeterministic {E S W : Type 0} (k : Kind E S W) : Type 0 where
  pub branch : (s : S) (own : List E) (n : ℕ) (a b : S) → k.Branch s own n a → k.Branch s own n b → a ≡ b
  pub wants : (s : S) (own : List E) (w v : W) → k.Wants s own w → k.Wants s own v → w ≡ v
  pub ends : (s : S) (own : List E) (w : W) → k.Stops s own → k.Wants s own w → ⊥

-- one entry of a name fits what is wanted after a history
abbrev pub FitsOnce : {E S W : Type 0} → Kind E S W → (List E → W → E → Type 0) → Type 0
FitsOnce {E} {S} {W} k Fits = (h : List E) (w : W) (d e : E) → k.name_of d ≡ k.name_of e → Fits h w d → Fits h w e → d ≡ e

-- what lives of the first kind do, those of the second do that begin alike: their branches begin alike, they want the same, and they stop
pub record IsAlike {E S T W : Type 0} (k : Kind E S W) (l : Kind E T W) (Alike : S → T → Type 0) : Type 0 where
  pub names : (e : E) → k.name_of e ≡ l.name_of e
  pub branches : (e : E) → k.branches_of e ≡ l.branches_of e
  pub branch : (s : S) (t : T) (own : List E) (n : ℕ) (a : S) → Alike s t → k.Branch s own n a → (b : T) × l.Branch t own n b × Alike a b
  pub wants : (s : S) (t : T) (own : List E) (w : W) → Alike s t → k.Wants s own w → l.Wants t own w
  pub stops : (s : S) (t : T) (own : List E) → Alike s t → k.Stops s own → l.Stops t own
