-- How a history grows by one entry, over any values: four kinds of entries, of which a chain of trees is built.
use Rattle.std.specs.Prelude.{◌≡◌, ℕ, false, Option, Some, List, [], ◌∷◌}
use Rattle.tac_ir.specs.declared.code.Code.{Code}
use Rattle.tac_thread.specs.declared.want.ReplyOf.{ReplyOf}
use Rattle.tac_thread.specs.Meaning.{Meaning}
use Rattle.tac_thread.specs.Life.{Life}
use Rattle.tac_thread.specs.Threads.{Lives, IsTree, IsBegun, IsFed, IsForked, IsStuck, Takes, TakesStacks, is_waiting}
use Rattle.tree_law.specs.Chain.{Saying, IsTreeAfter}

-- `Holds h f d`: these lives and this value are those after h, by whatever the history says of them. An entry tells a thread its answer,
-- or lets it fork, or stops the run, or lets it wait for good; and the tree that follows holds again.
pub data Does {V S E : Type 0} (m : Meaning V S) (c : Code) (say : Saying V S E) (Holds : List E → Lives V S → Option V → Type 0) (h : List E) (e : E) (f : Lives V S) (d : Option V) : Type 0 where
  tells : (n : ℕ) (reply : ReplyOf V S) → Takes m c f n reply → ((l : Life V S) → f n ≡ Some l → say.Tells h n l e reply)
      → ((g : Lives V S) (b : Option V) → IsFed m c f d n reply g b → IsTree m c g → Holds (e ∷ h) g b) → Does m c say Holds h e f d
  splits : (n : ℕ) (stacks : List S) → TakesStacks m c f n stacks → ((l : Life V S) → f n ≡ Some l → say.Tells h n l e ReplyOf.Unit × say.Shares l stacks)
      → ((g : Lives V S) (b : Option V) → IsForked m c f d n stacks g b → IsTree m c g → Holds (e ∷ h) g b) → Does m c say Holds h e f d
  ends : (n : ℕ) (l : Life V S) → f n ≡ Some l → is_waiting l.stage ≡ false → say.Halts h n l e → Holds (e ∷ h) f d → Does m c say Holds h e f d
  waits : (n : ℕ) (stacks : List S) → TakesStacks m c f n stacks → ((l : Life V S) → f n ≡ Some l → say.Sticks h n l e)
      → ((g : Lives V S) (b : Option V) → IsStuck f d n g b → IsTree m c g → Holds (e ∷ h) g b) → Does m c say Holds h e f d

-- the history has its chain of trees, and the last one holds
pub record HasChain {V S E : Type 0} (m : Meaning V S) (c : Code) (s : S) (say : Saying V S E) (Holds : List E → Lives V S → Option V → Type 0) (h : List E) : Type 0 where
  pub lives : Lives V S
  pub value : Option V
  pub chain : IsTreeAfter m c s say h lives value
  pub tree : IsTree m c lives
  pub holds : Holds h lives value

-- Logs that grow so: the tree that begins holds, what stands before the newest entry is a log, and the newest entry does one of the four.
pub record Grows {V S E : Type 0} (m : Meaning V S) (c : Code) (s : S) (say : Saying V S E) (Holds : List E → Lives V S → Option V → Type 0) (IsLog : List E → Type 0) : Type 0 where
  pub begins : (f : Lives V S) (d : Option V) → IsBegun m c s f d → IsTree m c f → Holds [] f d
  pub before : (h : List E) (e : E) → IsLog (e ∷ h) → IsLog h
  pub next : (h : List E) (e : E) (f : Lives V S) (d : Option V) → IsLog (e ∷ h) → Holds h f d → IsTree m c f → Does m c say Holds h e f d
