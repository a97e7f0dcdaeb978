use Rattle.std.proofs.Common.{◌≡◌, ◌++◌, drop}
use Rattle.least_rows.specs.tools.Growing.{loads_from}
use Rattle.least_rows.proofs.index.loads_of.Given as goal

abbrev pub invariant-loop-i : goal.invariant-loop-i
invariant-loop-i l = l.loads.items ++ loads_from l.i (drop l.i l.system.rules) ≡ loads_from 0 l.system.rules
