use Rattle.std.proofs.Common.{◌≡◌, ◌++◌, drop}
use Rattle.points_to.specs.Systems.{rules_in}
use Rattle.points_to.proofs.system.push_fun.Given as goal

abbrev pub invariant-loop-line : goal.invariant-loop-line
invariant-loop-line l = l.rules ++ rules_in l.c l.fun (drop l.line-index l.line-items) ≡ l.fn.rules ++ rules_in l.c l.fun l.line-items
