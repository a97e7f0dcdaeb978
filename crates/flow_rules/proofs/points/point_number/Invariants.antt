use Rattle.std.proofs.Common.{◌≡◌, length, map, sum, take}
use Rattle.tac_ir.specs.declared.code.Fun.{Fun}
use Rattle.flow_rules.proofs.points.point_number.Given as goal

abbrev pub invariant-loop-fun : goal.invariant-loop-fun
invariant-loop-fun l = l.before ≡ sum (map (λ (x : Fun). length x.code) (take l.fun-index l.c.funs))
