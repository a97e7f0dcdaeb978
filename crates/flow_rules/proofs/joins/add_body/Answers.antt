use Rattle.std.proofs.Common.{◌≡◌, ◌+◌, ◌∙◌, arith, ap, length, subst, false}
use Rattle.std.proofs.lemmas.List.{length-replicate}
use Rattle.flow_rules.specs.tools.Reached.{HasCalls}
use Rattle.flow_rules.proofs.InCode.{few_lines}
use Rattle.flow_rules.proofs.Branches.{body_set}
use Rattle.flow_rules.proofs.joins.add_body.Goals as goal

pub overflow_add-last : goal.overflow_add-last
overflow_add-last c = omega (arith, c.requires.last, few_lines c.args.c.now c.requires.form c.args.p.fun)

pub returns : goal.returns
returns c =
    let long : length c.add_reached.new.set ≡ 256 = c.add_reached.ensures.long ∙ c.add_calls.ensures.grown.long ∙ ap length c.requires.none ∙ length-replicate 256 false in
    body_set c.args.c.now c.args.p.fun c.args.p.at c.args.entry c.args.last c.add_calls.new.set c.add_reached.new.set c.add_calls.result
    (subst (λ row. HasCalls c.args.c.now c.args.p.fun c.args.entry (c.args.last + 1) row c.add_calls.new.set c.add_calls.result) c.requires.none c.add_calls.ensures) c.add_reached.ensures long
