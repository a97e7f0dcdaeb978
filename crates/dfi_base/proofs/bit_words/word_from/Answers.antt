use Rattle.std.proofs.Common.{arith}
use Rattle.std.specs.Prelude.{slice_index}
use Rattle.dfi_base.proofs.PackedRows.{from_here}
use Rattle.dfi_base.proofs.bit_words.word_from.Goals as goal

pub returns : goal.returns
returns c i within = from_here (slice_index c.args.words.now c.args.at) c.args.from c.args.at i (omega (arith, c.requires.begun, c.if-from-at.false)) within
