use Rattle.flow_rules.proofs.Built.{built_accepted}
use Rattle.flow_rules.proofs.law.built_is_accepted.Goals as goal

pub returns : goal.returns
returns c = built_accepted
