use Rattle.std.proofs.Common.{map, take}
use Rattle.tac_thread.specs.Threads.{IsTree, life_in, name_number}
use Rattle.obj_run.specs.Objects.{object_meaning}
use Rattle.obj_run.specs.tools.SoFar.{IsSoFar}
use Rattle.obj_run.proofs.run.along.Given as goal

abbrev pub invariant-loop-k : goal.invariant-loop-k
invariant-loop-k l = IsSoFar l.c l.input (map name_number (take l.k l.names)) l.run × IsTree object_meaning l.c (life_in l.run.tree)
