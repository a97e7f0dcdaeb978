use Rattle.std.proofs.Common.{◌/◌, ◌+◌, refl, arith}
use Rattle.dfi_base.proofs.PackedRows.{no_row}
use Rattle.dfi_base.proofs.bits.Bits.new.Goals as goal

pub returns : goal.returns
returns c = (no_row c.args.len ((c.args.len + 63) / 64) c.in_ok-words.words.items (omega (arith, c.ranges.len)) c.in_ok-words.ensures refl).seen
