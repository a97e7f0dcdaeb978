use Rattle.std.proofs.Common.{◌≡◌, map, take}
use Rattle.test_flow.specs.Worked.{row_of}
use Rattle.test_flow.proofs.tables.points_of.Given as goal

abbrev pub invariant-loop-line : goal.invariant-loop-line
invariant-loop-line l = l.rows.items ≡ map row_of (take l.line-index l.lines)
