-- What is so of the trees of threads of code of a good form, whatever the values are and whatever entries say.
use Rattle.std.specs.Prelude.{IsTrue, Option, List}
use Rattle.tac_ir.specs.declared.code.Code.{Code}
use Rattle.tac_ir.specs.GoodForm.{GoodForm}
use Rattle.tac_thread.specs.declared.want.ReplyOf.{ReplyOf}
use Rattle.tac_thread.specs.Meaning.{Meaning}
use Rattle.tac_thread.specs.Life.{Life}
use Rattle.tac_thread.specs.Answered.{answered}
use Rattle.tac_thread.specs.Threads.{Lives}
use Rattle.tree_law.specs.Placed.{ArePlaced}
use Rattle.tree_law.specs.Moves.{Moves}
use Rattle.tree_law.specs.Chain.{Saying, IsTreeAfter}
use Rattle.tree_law.specs.Growing.{Grows, HasChain}

-- each answer moves the activations of a life in one of six ways
abbrev pub AnswersMove : {V S : Type 0} → Meaning V S → Type 0
AnswersMove {V} {S} m = (c : Code) → GoodForm c → (l : Life V S) (reply : ReplyOf V S) → Moves m c reply l (answered m c l reply)

-- each history of a log that grows step by step has its chain of trees
abbrev pub HistoriesHaveChains : {V S E : Type 0} → Meaning V S → Saying V S E → (List E → Lives V S → Option V → Type 0) → (List E → Type 0) → Type 0
HistoriesHaveChains {V} {S} {E} m say Holds IsLog =
    (c : Code) → GoodForm c → (s : S) → IsTrue (m.has_frame c c.main s) → Grows m c s say Holds IsLog → (h : List E) → IsLog h → HasChain m c s say Holds h

-- in each tree of a chain the threads stand in the regions in which they began
abbrev pub LivesKeepTheirRegions : {V S E : Type 0} → Meaning V S → Saying V S E → Type 0
LivesKeepTheirRegions {V} {S} {E} m say = (c : Code) → GoodForm c → (s : S) (h : List E) (f : Lives V S) (d : Option V) → IsTreeAfter m c s say h f d → ArePlaced c f
