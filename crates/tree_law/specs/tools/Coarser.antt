-- Entries that say less.
use Rattle.std.specs.Prelude.{ℕ, List}
use Rattle.tac_thread.specs.declared.want.ReplyOf.{ReplyOf}
use Rattle.tac_thread.specs.Life.{Life}
use Rattle.tree_law.specs.Chain.{Saying}

-- what the first says, the second says
pub record SaysNoMore {V S E : Type 0} (fine less : Saying V S E) : Type 0 where
  pub tells : (h : List E) (n : ℕ) (l : Life V S) (e : E) (reply : ReplyOf V S) → fine.Tells h n l e reply → less.Tells h n l e reply
  pub shares : (l : Life V S) (stacks : List S) → fine.Shares l stacks → less.Shares l stacks
  pub halts : (h : List E) (n : ℕ) (l : Life V S) (e : E) → fine.Halts h n l e → less.Halts h n l e
  pub sticks : (h : List E) (n : ℕ) (l : Life V S) (e : E) → fine.Sticks h n l e → less.Sticks h n l e
