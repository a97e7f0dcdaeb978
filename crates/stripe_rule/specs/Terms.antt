-- What a memory is told when it is made, as views have it.
use Rattle.stripe_rule.specs.declared.plan.Plan.{Plan}
use Rattle.stripe_rule.specs.declared.plan.Terms.{Terms}

abbrev pub terms_of : Plan → Terms
terms_of k = record { md = k.md.now; input = k.input.items; stripes = k.stripes; budget = k.budget }
