use Rattle.std.proofs.Common.{◌<◌, take, take_all, get_or, refl, sym, subst, All}
use Rattle.std.proofs.lemmas.List.{take_more}
use Rattle.std.proofs.lemmas.List.Elements.{All-push}
use Rattle.least_rows.proofs.fitting.are_below.Goals as goal

pub loop-number-preserved : goal.loop-number-preserved
loop-number-preserved c =
    let items = c.args.numbers.now in
    let i = c.loop-number.number-index in
    subst (All (λ number. number < c.args.count)) (sym (take_more items i 0 c.loop-number-test.true))
    (All-push (λ number. number < c.args.count) (take i items) (get_or items i 0) c.loop-number.invariant (c.is_below.ensures.0 c.if-not-is_below.false))

pub returns : goal.returns
returns c = (
  λ is. subst (All (λ number. number < c.args.count)) (take_all c.loop-number.number-index c.args.numbers.now c.loop-number-test.false) c.loop-number.invariant,
  λ all. refl,
)
