use Rattle.std.proofs.Common.{◌≡◌, map, take}
use Rattle.test_samples.specs.Rows.{fun_of}
use Rattle.test_samples.proofs.build.funs_of.Given as goal

abbrev pub invariant-loop-row : goal.invariant-loop-row
invariant-loop-row l = l.funs.items ≡ map fun_of (take l.row-index l.rows)
