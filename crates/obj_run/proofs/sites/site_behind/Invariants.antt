use Rattle.std.proofs.Common.{◌≡◌, ◌+◌, length, drop}
use Rattle.tac_ir.specs.Counts.{vars_in_funs}
use Rattle.obj_run.proofs.sites.site_behind.Given as goal

abbrev pub invariant-loop-fun : goal.invariant-loop-fun
invariant-loop-fun l = l.site + length (vars_in_funs (drop l.fun-index l.funs)) ≡ length l.c.globals + length (vars_in_funs l.funs)
