use Rattle.std.proofs.Common.{◌≡◌, ◌++◌, drop}
use Rattle.points_to.specs.Systems.{rules_from}
use Rattle.points_to.proofs.system.all_rules.Given as goal

abbrev pub invariant-loop-fun : goal.invariant-loop-fun
invariant-loop-fun l = l.rules ++ rules_from l.c l.fun (drop l.fun l.c.funs) ≡ rules_from l.c 0 l.c.funs
