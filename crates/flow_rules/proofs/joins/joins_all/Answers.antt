use Rattle.std.proofs.Common.{◌≡◌, arith, ap, length, refl, subst}
use Rattle.flow_rules.specs.PointNumber.{point_at}
use Rattle.flow_rules.specs.tools.ReachRules.{JoinsAll}
use Rattle.flow_rules.proofs.ReachRules.{row_long}
use Rattle.flow_rules.proofs.joins.joins_all.Goals as goal

pub returns : goal.returns
returns c =
    let facts = c.args.r.now.facts.pairs in
    let joins = c.requires.branches.joins in
    let end : c.loop-k.k ≡ length facts = omega (arith, c.loop-k-test.false, c.loop-k.auto.k-end, c.len-k-end.ensures, ap length c.row_at-to.ensures, row_long c.args.c.now c.args.r.now c.requires.rows (point_at c.args.fun c.args.join) joins) in
    (λ h. subst (JoinsAll c.args.c.now c.args.r.now c.args.fun c.args.join c.args.entries.now) end c.loop-k.invariant, λ h. refl)
