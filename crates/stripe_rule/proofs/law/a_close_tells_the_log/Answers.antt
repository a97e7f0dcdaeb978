use Rattle.stripe_rule.proofs.Ends.{closes}
use Rattle.stripe_rule.proofs.law.a_close_tells_the_log.Goals as goal

pub returns : goal.returns
returns c = closes
