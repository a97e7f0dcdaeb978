-- The chain of trees of a history of a run over words of 32 bits.
use Rattle.std.specs.Prelude.{◌≡◌, ℕ, Bool, true, false, Option, Some, List, [], ◌∷◌, ℤ}
use Rattle.tac_ir.specs.declared.run.Entry.{Entry}
use Rattle.tac_ir.specs.Module.{Module}
use Rattle.tac_ir.specs.Path.{stops}
use Rattle.tac_ir.specs.Answers.{IsAnswer}
use Rattle.tac_thread.specs.declared.flat.FlatStack.{FlatStack}
use Rattle.tac_thread.specs.declared.want.Want.{Want}
use Rattle.tac_thread.specs.declared.want.ReplyOf.{ReplyOf}
use Rattle.tac_thread.specs.Doing.{want_of}
use Rattle.tac_thread.specs.Flat.{flat_meaning}
use Rattle.tree_law.specs.Chain.{Saying, IsTreeAfter}
use Rattle.path_law.specs.Asked.{op_of}
use Rattle.path_law.specs.Standing.{FlatLife, point_of}
use Rattle.path_law.specs.Begins.{root_stack}
use Rattle.path_law.specs.Wants.{room_in}
use Rattle.path_law.specs.Told.{IsTold}
use Rattle.path_law.specs.InPlace.{FlatLives, IsInPlace}
use Rattle.path_law.specs.Alive.{AreAlive, AreShares}

-- This life stands where the path of thread n stands after h; entry e is the thread's, at the life's point, with the op of what it wants, and
-- has the run's answer to it by the room above its frames.
pub record IsAsked (m : Module) (input : List ℤ) (h : List Entry) (n : ℕ) (l : FlatLife) (e : Entry) : Type 0 where
  pub name : e.name.0 ≡ n
  pub place : IsInPlace m h n l
  pub want : Want ℕ
  pub wants : want_of flat_meaning m.code l ≡ Some want
  pub point : e.point ≡ point_of l.top
  pub event : op_of want ≡ Some e.op
  pub answer : IsAnswer m input h n (room_in l.top.stack) e.op e.answer

-- and the reply tells the life that answer
pub record IsAnswered (m : Module) (input : List ℤ) (h : List Entry) (n : ℕ) (l : FlatLife) (e : Entry) (reply : ReplyOf ℕ FlatStack) : Type 0 where
  pub asked : IsAsked m input h n l e
  pub told : IsTold m.code l e reply
  pub goes : stops e.answer ≡ false

-- or that answer stops the run
pub record IsHalted (m : Module) (input : List ℤ) (h : List Entry) (n : ℕ) (l : FlatLife) (e : Entry) : Type 0 where
  pub asked : IsAsked m input h n l e
  pub stopped : stops e.answer ≡ true

-- What the entries of a run say. The stacks of branches are equal shares of their parent's room, and a fork that is too deep stops the run, so
-- nobody waits for good.
abbrev pub run_says : Module → List ℤ → Saying ℕ FlatStack Entry
run_says m input = record {
  Tells = IsAnswered m input;
  Shares = λ l stacks. AreShares l.top.stack stacks;
  Halts = IsHalted m input;
  Sticks = λ h n l e. ⊥;
}

abbrev pub IsRunTree : Module → List ℤ → List Entry → FlatLives → Option ℕ → Type 0
IsRunTree m input h f d = IsTreeAfter flat_meaning m.code (root_stack m) (run_says m input) h f d

-- the lives are those of the run's threads after the history, or, where that has stopped, after all but its last entry
abbrev pub AreLastBy : Module → List Entry → Entry → FlatLives → Option ℕ → Bool → Type 0
AreLastBy m h e f d true = AreAlive m h f d
AreLastBy m h e f d false = AreAlive m (e ∷ h) f d

abbrev pub AreLast : Module → List Entry → FlatLives → Option ℕ → Type 0
AreLast m [] f d = AreAlive m [] f d
AreLast m (e ∷ h) f d = AreLastBy m h e f d (stops e.answer)

-- the history has its chain of trees, of which the last is that of the run's threads
pub record IsChained (m : Module) (input : List ℤ) (h : List Entry) : Type 0 where
  pub lives : FlatLives
  pub value : Option ℕ
  pub chain : IsRunTree m input h lives value
  pub last : AreLast m h lives value
