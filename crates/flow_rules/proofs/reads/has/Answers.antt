use Rattle.std.proofs.Common.{◌∙◌}
use Rattle.flow_rules.proofs.Members.{has_any}
use Rattle.flow_rules.proofs.reads.has.Goals as goal

pub returns : goal.returns
returns c = c.contains.ensures.value ∙ has_any c.args.set.now c.args.def
