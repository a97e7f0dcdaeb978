use Rattle.std.proofs.Common.{◌≡◌, ◌+◌, length}
use Rattle.par_interfere.specs.tools.Points.{AreNumbered}
use Rattle.par_interfere.proofs.points.add_points.Given as goal

abbrev pub invariant-loop-at : goal.invariant-loop-at
invariant-loop-at l = record {
  numbered : AreNumbered l.c l.points.items;
  count : length l.points.items ≡ length l.initial.points.items + l.at;
}
