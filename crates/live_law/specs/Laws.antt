-- What is so of the points of threads that run at once, in code of a good form.
use Rattle.std.specs.Prelude.{◌≡◌, ℕ, false, Option, Some, List, ℤ, ◌↔◌, Contains}
use Rattle.dfi_base.specs.declared.numbers.Point.{Point}
use Rattle.dfi_base.specs.Lives.{IsNext}
use Rattle.tac_ir.specs.declared.code.Code.{Code}
use Rattle.tac_ir.specs.declared.run.Entry.{Entry}
use Rattle.tac_ir.specs.Module.{Module}
use Rattle.tac_ir.specs.Layout.{lines_of}
use Rattle.tac_ir.specs.Regions.{Region, regions_in}
use Rattle.tac_ir.specs.Bodies.{InBody, Parallel}
use Rattle.tac_ir.specs.GoodForm.{GoodForm}
use Rattle.tac_ir.specs.Path.{Start}
use Rattle.tac_ir.specs.Threads.{Want, threads_of}
use Rattle.tac_ir.specs.CoreRun.{GoesOn, IsHistory}
use Rattle.tac_thread.specs.Meaning.{Meaning}
use Rattle.tac_thread.specs.Life.{Life}
use Rattle.tac_thread.specs.Threads.{Lives, is_waiting, point_of}
use Rattle.tree_law.specs.Chain.{Saying, IsTreeAfter}

-- two lives of a tree that do not wait stand at parallel points
abbrev pub LivePointsAreParallel : {V S E : Type 0} → Meaning V S → Saying V S E → Type 0
LivePointsAreParallel {V} {S} {E} m say = (c : Code) → GoodForm c → (s : S) (h : List E) (f : Lives V S) (d : Option V) → IsTreeAfter m c s say h f d
    → (n k : ℕ) (l q : Life V S) → (n ≡ k → ⊥) → f n ≡ Some l → f k ≡ Some q → is_waiting l.stage ≡ false → is_waiting q.stage ≡ false → Parallel c (point_of l) (point_of q)

-- and so do two threads that are next after a history of a run
abbrev pub RunnablePointsAreParallel : Type 0
RunnablePointsAreParallel = (m : Module) (input : List ℤ) → GoodForm m.code → (h : List Entry) → IsHistory m input h → GoesOn h
    → (n k : ℕ) (s t : Start) (v w : Want) → (n ≡ k → ⊥) → IsNext (threads_of m) h n s v → IsNext (threads_of m) h k t w → Parallel m.code v.point w.point

-- the point stands in the body of some branch
pub record IsInBody (c : Code) (p : Point) : Type 0 where
  pub fun : ℕ
  pub region : Region
  pub listed : Contains (regions_in (lines_of c fun)) region
  pub body : InBody c fun region p

pub record HasParallel (c : Code) (p : Point) : Type 0 where
  pub other : Point
  pub parallel : Parallel c p other

-- each fork has two branches or more, so a point that stands in a body has a parallel point
abbrev pub BodiesHaveParallelPoints : Type 0
BodiesHaveParallelPoints = (c : Code) → GoodForm c → (p : Point) → HasParallel c p ↔ IsInBody c p
