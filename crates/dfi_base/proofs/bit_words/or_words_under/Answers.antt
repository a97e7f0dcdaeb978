use Rattle.std.proofs.Common.{ap, arith, sym, ◌∙◌}
use Rattle.std.proofs.lemmas.Nat.{and_le_l}
use Rattle.std.specs.Prelude.{slice_index, bit_and}
use Rattle.dfi_base.specs.tools.Packed.{has_bit}
use Rattle.dfi_base.proofs.PackedRows.{AreWords, same_word, false_unless, words_by}
use Rattle.dfi_base.proofs.bit_words.or_words_under.Goals as goal

pub returns-clause-changed : goal.returns-clause-changed
returns-clause-changed c =
    let is = c.loop-i.invariant in
    let fit : AreWords c.loop-i.words = words_by c.loop-i.i c.loop-i.words c.args.words.now (λ k. bit_and (slice_index c.args.other.now k) (slice_index c.args.mask.now k)) is.fit (λ k. omega (arith, c.type_inv.other k, and_le_l (slice_index c.args.other.now k) (slice_index c.args.mask.now k))) is.before is.behind in (
      λ quiet k. ap (λ l. has_bit l k) (is.quiet quiet),
      λ same. false_unless c.loop-i.changed (λ loud.
          is.loud loud (λ k within.
          sym (is.before k (omega (arith, within, c.loop-i-test.false))) ∙ same_word c.loop-i.words c.args.words.now fit is.fit same k)),
    )
