-- What a guest keeps of its log. Lists have the newest entry first.
use Rattle.std.specs.Prelude.{◌≡◌, ℕ, false, List, []}
use Rattle.dfi_base.specs.Grown.{IsGrown, AreFew}
use Rattle.tac_ir.specs.declared.run.Entry.{Entry}
use Rattle.tac_ir.specs.Module.{Module}
use Rattle.tac_ir.specs.Path.{Start}
use Rattle.tac_ir.specs.Threads.{Want, threads_of}
use Rattle.tac_ir.specs.Answers.{IsAnswer}
use Rattle.tac_ir.specs.Served.{is_served}

-- The entry is of what its thread wants. An answer that no memory gives hangs on no history and no input; of others nothing is said.
pub record FitsWant (m : Module) (w : Want) (e : Entry) : Type 0 where
  pub point : e.point ≡ w.point
  pub op : e.op ≡ w.op
  pub answer : is_served e.op ≡ false → IsAnswer m [] [] e.name.0 w.room e.op e.answer

-- a log of the life of thread n that began so, and of the lives below it
pub record IsLogOf (m : Module) (n : ℕ) (s : Start) (h : List Entry) : Type 0 where
  pub grown : IsGrown (threads_of m) (λ before. FitsWant m) n s h
  pub few : AreFew (threads_of m) h
