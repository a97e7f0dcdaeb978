-- Main's value in a tree, and in a run.
use Rattle.std.specs.Prelude.{◌≡◌, ℕ, Option, Some, None, List}
use Rattle.dfi_base.specs.Lives.{own}
use Rattle.tac_ir.specs.declared.run.Entry.{Entry}
use Rattle.tac_ir.specs.Module.{Module}
use Rattle.tac_ir.specs.Words.{int_of}
use Rattle.tac_ir.specs.CoreRun.{Returns}
use Rattle.tac_ir.specs.Threads.{root_start, threads_of}
use Rattle.path_law.specs.Wants.{EndsWith}

-- Thread 1 has ended: its value is the one that main returns. (An `end` outside of all branches would give none, and count as 0.)
pub data HasReturned (m : Module) (h : List Entry) (done : Option ℕ) : Type 0 where
  returns : (v : ℕ) → done ≡ Some v → Returns m h (int_of v) → HasReturned m h done
  stops : done ≡ Some 0 → EndsWith m.code (root_start m) (own (threads_of m) 1 h) None → HasReturned m h done

-- In code of a good form no such `end` is: main's value is there, and it is the one that main returned.
abbrev pub MainReturned : Module → List Entry → Option ℕ → Type 0
MainReturned m h done = (v : ℕ) × (done ≡ Some v) × Returns m h (int_of v)
