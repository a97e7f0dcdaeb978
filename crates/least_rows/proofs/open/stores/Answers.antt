use Rattle.std.proofs.Common.{ap, sym, ◌∙◌, true≢false}
use Rattle.dfi_base.specs.Bits.{has}
use Rattle.least_rows.proofs.Gathering.{row_is}
use Rattle.least_rows.proofs.open.stores.Goals as goal

pub returns-then-not-is_within : goal.returns-then-not-is_within
returns-then-not-is_within c =
    let t = c.args.rows.now in
    let r = c.loop-r.r in
    let targets = row_is t c.args.targets c.index-rows-targets.result c.requires.targets c.index-rows-targets.is in
    let from = row_is t c.args.from c.index-rows-from.result c.requires.from c.index-rows-from.is in
    let here = row_is t r c.index-rows-r.result c.loop-r-test.true c.index-rows-r.is in (
      λ none. absurd (true≢false (sym none)),
      λ all.
          absurd (true≢false
          (sym (c.is_within.ensures.1 (λ k had.
          ap (λ l. has l k) here
          ∙ all r k c.loop-r-test.true (sym (ap (λ l. has l r) targets) ∙ sym c.has_member.ensures ∙ c.if-has_member.true)
          (sym (ap (λ l. has l k) from) ∙ had)))
          ∙ c.if-not-is_within.true)),
    )
