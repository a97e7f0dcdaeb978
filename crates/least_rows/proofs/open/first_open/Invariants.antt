use Rattle.std.proofs.Common.{All, take}
use Rattle.least_rows.specs.Rules.{IsClosed}
use Rattle.least_rows.proofs.open.first_open.Given as goal

abbrev pub invariant-loop-i : goal.invariant-loop-i
invariant-loop-i l = All (IsClosed l.system l.rows) (take l.i l.system.rules)
