-- The laws of threads, from the lemmas.
use Rattle.std.proofs.Common.{ℕ, List}
use Rattle.dfi_base.specs.Lives.{Kind}
use Rattle.dfi_base.specs.Alike.{IsDeterministic, FitsOnce, IsAlike}
use Rattle.dfi_base.specs.Laws.{LivesAreOne, FirstLives, RunsAreOne, JoinIsGrown, ThreadsAreAlike}
use Rattle.dfi_base.proofs.OneLife.{begins_one, next_one, next_not_ended}
use Rattle.dfi_base.proofs.OneRun.{along_one, least_one, least_longer}
use Rattle.dfi_base.proofs.FirstLives.{first_lives}
use Rattle.dfi_base.proofs.Joining.{join}
use Rattle.dfi_base.proofs.Alike.{ended_alike, next_alike, grown_alike}

module _ {E S W : Type 0} (k : Kind E S W) where
  pub one_life : IsDeterministic k → LivesAreOne k
  one_life one = record {
    begins = λ r s0 h n s t a b. begins_one k one r s0 h n s t a b;
    wants = λ r s0 h n s t w v a b. (next_one k one r s0 h n s t w v a b).1;
    lives = λ r s0 h n s w next over. next_not_ended k one r s0 h n s w next over;
  }

  pub living_first : (Fits : List E → W → E → Type 0) → IsDeterministic k → FirstLives k Fits
  living_first Fits one r s0 h n s w grown few next over = first_lives k Fits one r s0 h grown few n s w next over

  pub one_run : (Fits : List E → W → E → Type 0) → IsDeterministic k → FitsOnce k Fits → RunsAreOne k Fits
  one_run Fits one once = record {
    along = λ r s0 xs ys names gx gy. along_one k Fits one once r s0 xs ys names gx gy;
    least = λ r s0 xs ys long gx gy lx ly. least_one k Fits one once r s0 xs ys long gx gy lx ly;
    longer = λ r s0 xs ys short gx gy lx ly. least_longer k Fits one once r s0 ys xs short gx gy lx ly;
  }

  pub grown_join : (Fits : W → E → Type 0) → JoinIsGrown k Fits
  grown_join Fits r q s0 sq tail whole rest part begins none joined few grown below =
      join k r q s0 sq tail begins none Fits whole rest part joined few grown below

pub alike : {E S T W : Type 0} (k : Kind E S W) (l : Kind E T W) (Alike : S → T → Type 0) (Fits : List E → W → E → Type 0) (r : ℕ) (s0 : S) (t0 : T)
    → IsAlike k l Alike → Alike s0 t0 → ThreadsAreAlike k l Fits r s0 t0
alike k l Alike Fits r s0 t0 same start = record {
  ended = λ h n over. ended_alike k l Alike same r s0 t0 start h n over;
  next = λ h n s w now. (let found = next_alike k l Alike same r s0 t0 start h n s w now in (found.0, found.1));
  grown = λ h grown. grown_alike k l Alike same r s0 t0 start Fits h grown;
}
