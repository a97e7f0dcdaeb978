use Rattle.std.proofs.Common.{sym}
use Rattle.dfi_base.proofs.PackedRows.{row_long}
use Rattle.dfi_base.proofs.bits.Bits.len.Goals as goal

pub returns : goal.returns
returns c = sym (row_long c.self.inside.len c.self.inside.words.items c.args.self.now (record { packed = c.self.invariant; seen = c.self.view_is }))
