use Rattle.stripe_steps.specs.Opened.{AreStripes}
use Rattle.stripe_steps.proofs.open.stripes_of.Given as goal

abbrev pub invariant-loop-stripe : goal.invariant-loop-stripe
invariant-loop-stripe l = AreStripes l.words l.stripes l.stripe l.contents.items
