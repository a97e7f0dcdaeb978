use Rattle.std.proofs.Common.{take, take_all, get_or, refl, sym, subst, All}
use Rattle.std.proofs.lemmas.List.{take_more}
use Rattle.std.proofs.lemmas.List.Elements.{All-push}
use Rattle.least_rows.specs.Rules.{IsFittingRule}
use Rattle.least_rows.proofs.fitting.are_fitting.Goals as goal

pub loop-rule-preserved : goal.loop-rule-preserved
loop-rule-preserved c =
    let items = c.args.rules.now in
    let i = c.loop-rule.rule-index in
    let d = c.rule-item.result in
    subst (All (IsFittingRule c.args.width c.args.masks c.args.rows)) (sym (take_more items i d c.loop-rule-test.true))
    (All-push (IsFittingRule c.args.width c.args.masks c.args.rows) (take i items) (get_or items i d) c.loop-rule.invariant (subst (IsFittingRule c.args.width c.args.masks c.args.rows) c.rule-item.is (c.is_fitting_rule.ensures.0 c.if-not-is_fitting_rule.false)))

pub returns : goal.returns
returns c = (
  λ is. subst (All (IsFittingRule c.args.width c.args.masks c.args.rows)) (take_all c.loop-rule.rule-index c.args.rules.now c.loop-rule-test.false) c.loop-rule.invariant,
  λ all. refl,
)
