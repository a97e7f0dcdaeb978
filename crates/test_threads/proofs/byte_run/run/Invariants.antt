use Rattle.tac_thread.specs.Threads.{life_in, IsTree}
use Rattle.test_threads.specs.Bytes.{bytes_meaning}
use Rattle.test_threads.proofs.byte_run.run.Given as goal

abbrev pub invariant-turns : goal.invariant-turns
invariant-turns l = IsTree bytes_meaning l.c (life_in l.tree)
