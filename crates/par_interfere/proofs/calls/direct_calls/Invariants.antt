use Rattle.std.proofs.Common.{length}
use Rattle.par_interfere.specs.tools.Calls.{AreCalls, IsTable}
use Rattle.par_interfere.proofs.calls.direct_calls.Given as goal

abbrev pub invariant-loop-p : goal.invariant-loop-p
invariant-loop-p l = record {
  shape : IsTable (length l.c.funs) l.table.items;
  calls : AreCalls l.c l.points l.p-index l.table.items;
}
