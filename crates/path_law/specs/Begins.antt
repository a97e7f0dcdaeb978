-- How lives begin.
use Rattle.std.specs.Prelude.{ℕ, ◌+◌, List, []}
use Rattle.tac_ir.specs.declared.code.Code.{Code}
use Rattle.tac_ir.specs.declared.run.Entry.{Entry}
use Rattle.tac_ir.specs.Module.{Module}
use Rattle.tac_ir.specs.Layout.{stack_from, memory_words, frame_words}
use Rattle.tac_ir.specs.Path.{Start}
use Rattle.tac_ir.specs.Threads.{IsForked}
use Rattle.tac_thread.specs.declared.flat.FlatStack.{FlatStack}
use Rattle.path_law.specs.Standing.{FlatLife, IsAt}

-- The stack of thread 1: main's frame stands at the first of the stacks' words, and the rest of memory is above it.
abbrev pub root_stack : Module → FlatStack
root_stack m = record {
  base = stack_from m.size;
  top = stack_from m.size + frame_words m.code m.code.main;
  «end» = memory_words m.size;
}

-- The life stands where branch i begins, of a thread that began so and forks after these entries of its own.
pub record IsBranchAt (c : Code) (s : Start) (own : List Entry) (i : ℕ) (l : FlatLife) : Type 0 where
  pub start : Start
  pub forked : IsForked c s own i start
  pub stands : IsAt c start [] l
