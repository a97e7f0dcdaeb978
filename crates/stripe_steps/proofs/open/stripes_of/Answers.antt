use Rattle.std.proofs.Common.{◌+◌, sym, subst}
use Rattle.stripe_steps.specs.Opened.{AreStripes}
use Rattle.stripe_steps.proofs.Opening.{next_stripe}
use Rattle.stripe_steps.proofs.open.stripes_of.Goals as goal

pub loop-stripe-preserved : goal.loop-stripe-preserved
loop-stripe-preserved c =
    subst (AreStripes c.args.words.now c.args.stripes (c.loop-stripe.stripe + 1)) (sym c.in_ok-push.ensures.items)
    (next_stripe c.args.words.now c.args.stripes c.loop-stripe.stripe c.loop-stripe.contents.items c.in_ok-part.part c.loop-stripe.invariant c.in_ok-part.ensures)
