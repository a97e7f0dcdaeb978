-- What entries say of lives, told by tests: so a law can speak of all that entries may say.
use Rattle.std.specs.Prelude.{◌≡◌, ℕ, Bool, true, List}
use Rattle.tac_thread.specs.declared.want.ReplyOf.{ReplyOf}
use Rattle.tac_thread.specs.Life.{Life}
use Rattle.tree_law.specs.Chain.{Saying}

pub record Told (V S E : Type 0) : Type 0 where
  pub tells : List E → ℕ → Life V S → E → ReplyOf V S → Bool
  pub shares : Life V S → List S → Bool
  pub halts : List E → ℕ → Life V S → E → Bool
  pub sticks : List E → ℕ → Life V S → E → Bool

abbrev pub saying_of : {V S E : Type 0} → Told V S E → Saying V S E
saying_of t = record {
  Tells = λ h n l e reply. t.tells h n l e reply ≡ true;
  Shares = λ l stacks. t.shares l stacks ≡ true;
  Halts = λ h n l e. t.halts h n l e ≡ true;
  Sticks = λ h n l e. t.sticks h n l e ≡ true;
}
