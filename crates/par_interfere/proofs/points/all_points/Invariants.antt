use Rattle.std.proofs.Common.{◌≡◌, length, map, sum, take}
use Rattle.par_interfere.specs.tools.Points.{AreNumbered}
use Rattle.tac_ir.specs.declared.code.Fun.{Fun}
use Rattle.par_interfere.proofs.points.all_points.Given as goal

abbrev pub invariant-loop-fun : goal.invariant-loop-fun
invariant-loop-fun l = record {
  numbered : AreNumbered l.c l.points.items;
  count : length l.points.items ≡ sum (map (λ (x : Fun). length x.code) (take l.fun l.c.funs));
}
