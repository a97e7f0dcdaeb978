use Rattle.std.proofs.Common.{ap, sym, ◌∙◌, w64}
use Rattle.std.proofs.lemmas.Nat.Bits.{bit_at_set_same, bit_at_set_other, bit_at_clear_same, bit_at_clear_other}
use Rattle.std.specs.Prelude.{◌==◌}
use Rattle.dfi_base.proofs.bit_words.word_with.Goals as goal

pub returns-then-b-clause-there : goal.returns-then-b-clause-there
returns-then-b-clause-there c = ap (λ n. n == 1) (bit_at_set_same w64 c.args.word c.args.bit c.requires) ∙ sym c.if-b.true

pub returns-then-b-clause-elsewhere : goal.returns-then-b-clause-elsewhere
returns-then-b-clause-elsewhere c i within apart = ap (λ n. n == 1) (bit_at_set_other w64 c.args.word c.args.bit c.requires i apart)

pub returns-else-b-clause-there : goal.returns-else-b-clause-there
returns-else-b-clause-there c = ap (λ n. n == 1) (bit_at_clear_same w64 c.args.word c.args.bit c.requires) ∙ sym c.if-b.false

pub returns-else-b-clause-elsewhere : goal.returns-else-b-clause-elsewhere
returns-else-b-clause-elsewhere c i within apart = ap (λ n. n == 1) (bit_at_clear_other w64 c.args.word c.args.bit c.requires i within apart)
