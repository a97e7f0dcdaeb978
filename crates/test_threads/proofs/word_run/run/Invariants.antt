use Rattle.tac_thread.specs.Flat.{flat_meaning}
use Rattle.tac_thread.specs.Threads.{life_in, IsTree}
use Rattle.test_threads.proofs.word_run.run.Given as goal

abbrev pub invariant-turns : goal.invariant-turns
invariant-turns l = IsTree flat_meaning l.c (life_in l.tree)
