-- What is so of each history of a module whose code has a good form.
use Rattle.std.specs.Prelude.{ℕ, Option, List, ℤ}
use Rattle.dfi_base.specs.Lives
use Rattle.tac_ir.specs.declared.run.Entry.{Entry}
use Rattle.tac_ir.specs.Module.{Module}
use Rattle.tac_ir.specs.GoodForm.{GoodForm}
use Rattle.tac_ir.specs.Layout.{memory_words}
use Rattle.tac_ir.specs.Threads.{threads_of}
use Rattle.tac_ir.specs.CoreRun.{GoesOn, IsHistory}
use Rattle.tac_thread.specs.Threads.{IsRunnable}
use Rattle.path_law.specs.Begins.{root_stack}
use Rattle.path_law.specs.InPlace.{FlatLives}
use Rattle.chain_law.specs.RunTree.{IsRunTree, IsChained}
use Rattle.chain_law.specs.Frames.{AreShared, AreWithin, AreApart}

-- each history has its chain of trees
abbrev pub RunsHaveChains : Type 0
RunsHaveChains = (m : Module) (input : List ℤ) → GoodForm m.code → (h : List Entry) → IsHistory m input h → IsChained m input h

-- where it has not stopped, those that run in its last tree are those that are runnable after it
abbrev pub RunnableIsRunning : Type 0
RunnableIsRunning = (m : Module) (input : List ℤ) (h : List Entry) (t : IsChained m input h) (n : ℕ) → GoesOn h
    → (IsRunnable t.lives n → Lives.IsRunnable (threads_of m) h n) × (Lives.IsRunnable (threads_of m) h n → IsRunnable t.lives n)

-- in each tree of a chain frames stand in shares, behind main's frame and within the memory, and those of two threads share no word
abbrev pub FramesAreApart : Type 0
FramesAreApart = (m : Module) (input : List ℤ) → GoodForm m.code → (h : List Entry) (f : FlatLives) (d : Option ℕ) → IsRunTree m input h f d
    → AreShared m.code (root_stack m).top (memory_words m.size) f × AreWithin (root_stack m).top (memory_words m.size) f × AreApart f
