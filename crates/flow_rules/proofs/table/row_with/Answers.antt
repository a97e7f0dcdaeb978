use Rattle.std.proofs.Common.{◌+◌, subst, sym, take}
use Rattle.flow_rules.specs.tools.RowsBefore.{IsRowWith}
use Rattle.flow_rules.proofs.RowTable.{row_next}
use Rattle.flow_rules.proofs.table.row_with.Goals as goal

pub loop-bit-preserved : goal.loop-bit-preserved
loop-bit-preserved c =
    subst (IsRowWith c.args.len (take (c.loop-bit.bit-index + 1) c.args.bits.now)) (sym c.put.ensures)
    (row_next c.args.len c.args.bits.now c.loop-bit.bit-index c.loop-bit.row c.loop-bit-test.true (c.requires c.loop-bit.bit-index 0 c.loop-bit-test.true) c.loop-bit.invariant)
