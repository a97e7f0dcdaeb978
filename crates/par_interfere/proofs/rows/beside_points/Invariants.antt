use Rattle.std.proofs.Common.{length}
use Rattle.par_interfere.specs.tools.Calls.{AreRows}
use Rattle.par_interfere.proofs.Joins.{EachRow, IsAt, IsBesidePoint}
use Rattle.par_interfere.proofs.rows.beside_points.Given as goal

abbrev pub invariant-loop-p : goal.invariant-loop-p
invariant-loop-p l = record {
  shape : AreRows l.p-index (length l.points) l.rows.items;
  each : EachRow (IsAt (λ p. IsBesidePoint l.branches l.others p) l.points) l.p-index l.rows.items;
}
