use Rattle.dfi_base.proofs.PackedRows.{first_bit}
use Rattle.dfi_base.proofs.bit_words.next_bit.Goals as goal

pub returns-then-word-ne0 : goal.returns-then-word-ne0
returns-then-word-ne0 c =
    first_bit c.args.words.now c.loop-at.at c.args.from c.word_from-word.result c.if-word-ne0.true c.word_from-word.type_inv c.word_from-word.ensures
    c.loop-at.invariant
