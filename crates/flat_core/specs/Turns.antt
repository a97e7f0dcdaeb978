-- An event of one thread that is no fork, beside the life of the thread.
use Rattle.std.specs.Prelude.{◌≡◌, ℕ, true, false, Some, List, ◌∷◌, ℤ}
use Rattle.tac_ir.specs.declared.run.Answer.{Answer}
use Rattle.tac_ir.specs.declared.run.Entry.{Entry}
use Rattle.tac_ir.specs.Module.{Module}
use Rattle.tac_ir.specs.Answers.{IsAnswer}
use Rattle.tac_ir.specs.Path.{stops}
use Rattle.code_layout.specs.LayoutOf.{IsLayoutOf}
use Rattle.tac_thread.specs.declared.flat.FlatStack.{FlatStack}
use Rattle.tac_thread.specs.declared.want.ReplyOf.{ReplyOf}
use Rattle.tac_thread.specs.Doing.{want_of}
use Rattle.tac_thread.specs.Answered.{answered}
use Rattle.tac_thread.specs.RunsOn.{RunsOn}
use Rattle.tac_thread.specs.Guests.{IsGuestOf, TakesReply}
use Rattle.tac_thread.specs.Flat.{flat_meaning}
use Rattle.path_law.specs.Asked.{Tells}
use Rattle.path_law.specs.Standing.{FlatLife}
use Rattle.path_law.specs.Wants.{room_in}
use Rattle.flat_core.specs.declared.ask.Asked.{Asked}
use Rattle.flat_core.specs.declared.store.Store.{Store}
use Rattle.flat_core.specs.tools.Asked.{asks, op_in, entry_of}
use Rattle.flat_core.specs.Store.{IsStore}

-- what threads share is where some run of the module is
abbrev pub IsStoreOfRun : Module → Store → Type 0
IsStoreOfRun m s = (input : List ℤ) × (h : List Entry) × IsStore m input h s

-- a life asks for this
abbrev pub AsksFor : Module → FlatLife → Asked → Type 0
AsksFor m l a = asks l (op_in (want_of flat_meaning m.code l)) ≡ Some a

-- the life l took a reply that tells it the answer to what it asked for, and ran on to k
pub record HasGoneOn (m : Module) (l : FlatLife) (a : Asked) (answer : Answer) (k : FlatLife) : Type 0 where
  pub reply : ReplyOf ℕ FlatStack
  pub kind : TakesReply flat_meaning m.code l reply
  pub tells : Tells m.code a.stack a.op answer reply
  pub runs : RunsOn flat_meaning m.code (answered flat_meaning m.code l reply) k
  pub guest : IsGuestOf flat_meaning m.code k

-- the answer is that of the run after the history: where it goes on, so do the life of thread n and what threads share, and where it
-- stops, the life stands as it stood; the layout is that of the code
pub record IsTurned (m : Module) (input : List ℤ) (h : List Entry) (n : ℕ) (l : FlatLife) (a : Asked) (answer : Answer) (k : FlatLife) (r : Store) : Type 0 where
  pub answers : IsAnswer m input h n (room_in a.stack) a.op answer
  pub goes_on : stops answer ≡ false → HasGoneOn m l a answer k × IsStore m input (entry_of n a answer ∷ h) r
  pub stays : stops answer ≡ true → k ≡ l
  pub layout : IsLayoutOf m.code r.layout

-- whatever run they are of, and whatever its name, the life l turns so with what threads share
abbrev pub Turns : Module → FlatLife → Store → Asked → Answer → FlatLife → Store → Type 0
Turns m l s a answer k r = (input : List ℤ) (h : List Entry) (n : ℕ) → IsStore m input h s → IsTurned m input h n l a answer k r
