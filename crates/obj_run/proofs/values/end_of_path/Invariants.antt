use Rattle.std.proofs.Common.{◌≡◌, drop}
use Rattle.tac_ir.specs.Places.{end_of_path}
use Rattle.obj_run.proofs.values.end_of_path.Given as goal

abbrev pub invariant-loop-k : goal.invariant-loop-k
invariant-loop-k l = end_of_path l.c l.here (drop l.k-index l.path) ≡ end_of_path l.c l.shape l.path
