use Rattle.std.proofs.Common.{take}
use Rattle.flow_rules.specs.tools.RowsBefore.{IsRowWith}
use Rattle.flow_rules.proofs.table.row_with.Given as goal

abbrev pub invariant-loop-bit : goal.invariant-loop-bit
invariant-loop-bit l = IsRowWith l.len (take l.bit-index l.bits) l.row
