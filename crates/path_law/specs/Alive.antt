-- A tree of threads after a history, and the next event of one of them.
use Rattle.std.specs.Prelude.{◌≡◌, ℕ, suc, ◌/◌, Option, Some, List, length, slice_get}
use Rattle.tac_ir.specs.declared.run.Entry.{Entry}
use Rattle.tac_ir.specs.Module.{Module}
use Rattle.tac_thread.specs.declared.flat.FlatStack.{FlatStack}
use Rattle.tac_thread.specs.declared.want.ReplyOf.{ReplyOf}
use Rattle.tac_thread.specs.Threads.{IsTree, running}
use Rattle.tac_thread.specs.Flat.{flat_meaning, with_share}
use Rattle.path_law.specs.Standing.{FlatLife}
use Rattle.path_law.specs.Wants.{room_in}
use Rattle.path_law.specs.Told.{IsTold}
use Rattle.path_law.specs.InPlace.{FlatLives, AreInPlace}

-- these lives are a tree, and those of the threads that live after the history
pub record AreAlive (m : Module) (h : List Entry) (f : FlatLives) (done : Option ℕ) : Type 0 where
  pub place : AreInPlace m h f done
  pub tree : IsTree flat_meaning m.code f

-- the entry is that of the next event of its thread, which runs, and the reply tells its answer
pub record IsNextTold (m : Module) (f : FlatLives) (e : Entry) (reply : ReplyOf ℕ FlatStack) : Type 0 where
  pub life : FlatLife
  pub runs : running (f e.name.0) ≡ Some life
  pub told : IsTold m.code life e reply

-- the stacks of branches: equal shares of the room of a thread
abbrev pub AreShares : FlatStack → List FlatStack → Type 0
AreShares s stacks = (i : ℕ) (t : FlatStack) → slice_get stacks i ≡ Some t → with_share (room_in s / length stacks) s (suc i) ≡ Some t
