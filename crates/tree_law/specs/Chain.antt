-- The chain of the trees of a history, over any values: what every law on histories is an induction on.
use Rattle.std.specs.Prelude.{◌≡◌, ℕ, ◌≤◌, false, Option, Some, List, [], ◌∷◌, length}
use Rattle.tac_ir.specs.declared.code.Code.{Code}
use Rattle.tac_ir.specs.declared.code.Instr.{Instr}
use Rattle.tac_thread.specs.declared.want.ReplyOf.{ReplyOf}
use Rattle.tac_thread.specs.Meaning.{Meaning}
use Rattle.tac_thread.specs.Life.{Life, instr_of}
use Rattle.tac_thread.specs.Answered.{answered}
use Rattle.tac_thread.specs.Threads.{Lives, IsBegun, IsFed, IsForked, IsStuck, IsTree, is_waiting}

-- What entries E say of lives. `Tells h n l e reply`: this life of thread n is told by this reply what entry e was answered after h.
-- `Shares l stacks`: these are the stacks of the branches of a life that forks. `Halts h n l e`: entry e of this life stops the run.
-- `Sticks h n l e`: by entry e this life waits for good, since it is 14 deep.
pub record Saying (V S E : Type 0) : Type 1 where
  pub Tells : List E → ℕ → Life V S → E → ReplyOf V S → Type 0
  pub Shares : Life V S → List S → Type 0
  pub Halts : List E → ℕ → Life V S → E → Type 0
  pub Sticks : List E → ℕ → Life V S → E → Type 0

-- Each history of entries, the newest first, leads from the tree that begins with stack s to this one, with main's value where it has ended.
pub data IsTreeAfter {V S E : Type 0} (m : Meaning V S) (c : Code) (s : S) (say : Saying V S E) : List E → Lives V S → Option V → Type 0 where
  begins : (f : Lives V S) (d : Option V) → IsTree m c f → IsBegun m c s f d → IsTreeAfter m c s say [] f d
  feeds : (h : List E) (e : E) (n : ℕ) (reply : ReplyOf V S) (f g : Lives V S) (d b : Option V) → IsTreeAfter m c s say h f d → IsTree m c g
      → (fed : IsFed m c f d n reply g b) → is_waiting fed.life.stage ≡ false → is_waiting (answered m c fed.life reply).stage ≡ false → say.Tells h n fed.life e reply
      → IsTreeAfter m c s say (e ∷ h) g b
  forks : (h : List E) (e : E) (n : ℕ) (stacks : List S) (f g : Lives V S) (d b : Option V) → IsTreeAfter m c s say h f d → IsTree m c g
      → (forked : IsForked m c f d n stacks g b) → is_waiting forked.life.stage ≡ false → say.Tells h n forked.life e ReplyOf.Unit → say.Shares forked.life stacks
      → 1 ≤ n → (join : ℕ) (entries : List ℕ) → instr_of c forked.life.top ≡ Instr.Fork join entries → length entries ≡ length stacks → length stacks ≤ 15
      → IsTreeAfter m c s say (e ∷ h) g b
  halts : (h : List E) (e : E) (n : ℕ) (l : Life V S) (f : Lives V S) (d : Option V) → IsTreeAfter m c s say h f d → f n ≡ Some l → is_waiting l.stage ≡ false
      → say.Halts h n l e → IsTreeAfter m c s say (e ∷ h) f d
  sticks : (h : List E) (e : E) (n : ℕ) (f g : Lives V S) (d b : Option V) → IsTreeAfter m c s say h f d → IsTree m c g → (stuck : IsStuck f d n g b)
      → is_waiting stuck.life.stage ≡ false → say.Sticks h n stuck.life e → IsTreeAfter m c s say (e ∷ h) g b
