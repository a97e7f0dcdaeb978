-- The next event of a thread that runs.
use Rattle.std.specs.Prelude.{◌≡◌, ℕ, Some, List}
use Rattle.dfi_base.specs.Lives.{IsNext}
use Rattle.tac_ir.specs.declared.run.Op.{Op}
use Rattle.tac_ir.specs.declared.run.Entry.{Entry}
use Rattle.tac_ir.specs.Module.{Module}
use Rattle.tac_ir.specs.Path.{Start}
use Rattle.tac_ir.specs.Threads.{threads_of}
use Rattle.tac_thread.specs.declared.want.Want.{Want}
use Rattle.tac_thread.specs.Doing.{want_of}
use Rattle.tac_thread.specs.Flat.{flat_meaning}
use Rattle.path_law.specs.Asked.{op_of}
use Rattle.path_law.specs.Standing.{FlatLife}
use Rattle.path_law.specs.Wants.{next_of}

-- what the life wants is what thread n wants next
pub record Runs (m : Module) (h : List Entry) (n : ℕ) (l : FlatLife) : Type 0 where
  pub want : Want ℕ
  pub wants : want_of flat_meaning m.code l ≡ Some want
  pub op : Op
  pub event : op_of want ≡ Some op
  pub start : Start
  pub next : IsNext (threads_of m) h n start (next_of l op)
