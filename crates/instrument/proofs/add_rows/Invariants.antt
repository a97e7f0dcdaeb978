use Rattle.std.proofs.Common.{◌≡◌, ◌++◌, drop, take}
use Rattle.instrument.specs.tools.MadeRows.{rows_of}
use Rattle.instrument.proofs.add_rows.Given as goal

abbrev pub invariant-loop-at : goal.invariant-loop-at
invariant-loop-at l = l.made ≡ l.initial.made ++ rows_of l.fun 0 (take l.at (drop l.first l.rows))
