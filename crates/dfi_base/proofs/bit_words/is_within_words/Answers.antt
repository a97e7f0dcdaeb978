use Rattle.std.proofs.Common.{arith, sym, refl, true≢false}
use Rattle.dfi_base.proofs.PackedRows.{within_bits, word_within}
use Rattle.dfi_base.proofs.bit_words.is_within_words.Goals as goal

pub returns-then-words-i : goal.returns-then-words-i
returns-then-words-i c = (
  λ none. absurd (true≢false (sym none)),
  λ within.
      absurd (c.if-words-i.true
      (word_within c.args.words.now c.args.other.now (λ k. omega (arith, c.type_inv.words k)) (λ k. omega (arith, c.type_inv.other k)) within c.loop-i.i)),
)

pub returns : goal.returns
returns c = (
  λ all. within_bits c.args.words.now c.args.other.now (λ k inside. c.loop-i.invariant k (omega (arith, inside, c.loop-i-test.false))),
  λ within. refl,
)
