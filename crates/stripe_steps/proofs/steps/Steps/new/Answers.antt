use Rattle.std.proofs.Common.{◌+◌, ap, ◌∙◌, arith, length}
use Rattle.std.proofs.lemmas.List.{length-replicate}
use Rattle.stripe_rule.specs.declared.plan.Terms.{Terms}
use Rattle.stripe_rule.specs.Terms.{terms_of}
use Rattle.stripe_steps.proofs.Opening.{begins}
use Rattle.stripe_steps.proofs.steps.Steps.new.Goals as goal

pub new-requires-2 : goal.new-requires-2
new-requires-2 c =
    let p : Terms = record { md = c.args.m.now; input = c.in_ok-from_slice.field-0.items; stripes = c.args.stripes; budget = c.args.budget } in
    begins p c.args.input.now c.as_slice.result.now c.in_ok-contents.contents.items (c.as_slice.ensures.value ∙ c.in_ok-words.ensures) c.in_ok-from_slice.ensures.items (c.in_ok-contents.ensures c.args.budget)

pub invariant_of-steps : goal.invariant_of-steps
invariant_of-steps c =
    let ok = c.in-Ok.ensures.ok in
    let blank = c.in_ok-contents.ensures c.args.budget in
    let limits = c.requires.limits in record {
      planned = ap terms_of ok.5;
      sized = (ok.0 ∙ ap length (c.as_slice.ensures.value ∙ c.in_ok-words.ensures) ∙ length-replicate (c.args.stripes + 3) 0, ok.1 ∙ blank.0);
      limits = ((let a = limits.0 in omega (arith, a)), (let a = limits.1 in omega (arith, a)), (let a = limits.2 in omega (arith, a)));
      answering = c.in_ok-tables.ensures;
    }
