use Rattle.std.proofs.Common.{◌≡◌}
use Rattle.points_to.specs.Rows.{temps_before}
use Rattle.points_to.specs.tools.RowMaps.{AreStarts}
use Rattle.points_to.proofs.row_map.starts_of.Given as goal

abbrev pub invariant-loop-fun : goal.invariant-loop-fun
invariant-loop-fun l = record {
  starts : AreStarts l.c l.fun l.starts.items;
  next : l.next ≡ temps_before l.c l.fun;
}
