use Rattle.std.proofs.Common.{◌≡◌, map, take}
use Rattle.test_samples.specs.Rows.{line_of}
use Rattle.test_samples.proofs.row.lines_of.Given as goal

abbrev pub invariant-loop-row : goal.invariant-loop-row
invariant-loop-row l = l.lines.items ≡ map line_of (take l.row-index l.rows)
