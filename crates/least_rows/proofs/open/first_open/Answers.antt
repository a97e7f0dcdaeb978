use Rattle.std.proofs.Common.{◌≡◌, ◌<◌, length, take_all, get_or, ap, ◌∙◌, subst, All, arith}
use Rattle.std.proofs.lemmas.List.Elements.{All-more}
use Rattle.least_rows.specs.Rules.{IsClosed}
use Rattle.least_rows.proofs.open.first_open.Goals as goal

pub loop-i-preserved : goal.loop-i-preserved
loop-i-preserved c =
    let s = c.args.system.now in
    let t = c.args.rows.now in
    let i = c.loop-i.i in
    let rule = c.rule-item.result in
    let within : i < length s.rules = subst (λ l. i < length l) c.as_slice-rule-items.ensures c.loop-i-test.true in
    let is : rule ≡ get_or s.rules i rule = c.rule-item.is ∙ ap (λ l. get_or l i rule) c.as_slice-rule-items.ensures in
    All-more (IsClosed s t) s.rules i rule within c.loop-i.invariant (subst (IsClosed s t) is (c.is_closed.ensures.0 c.if-not-is_closed.false))

pub returns : goal.returns
returns c =
    let s = c.args.system.now in
    subst (All (IsClosed s c.args.rows.now)) (take_all c.loop-i.i s.rules (omega (arith, c.loop-i-test.false, ap length c.as_slice-rule-items.ensures)))
    c.loop-i.invariant
