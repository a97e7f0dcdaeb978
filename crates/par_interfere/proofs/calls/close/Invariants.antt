use Rattle.std.proofs.Common.{length}
use Rattle.par_interfere.specs.tools.Calls.{IsTable}
use Rattle.par_interfere.proofs.Closures.{IsClosedTo}
use Rattle.par_interfere.proofs.calls.close.Given as goal

abbrev pub invariant-loop-middle : goal.invariant-loop-middle
invariant-loop-middle l = record {
  shape : IsTable (length l.initial.table.items) l.table.items;
  closed : IsClosedTo l.middle l.initial.table.items l.table.items;
}
