use Rattle.std.proofs.Common.{arith}
use Rattle.flow_rules.proofs.SpotSteps.{sites_fit}
use Rattle.flow_rules.proofs.nodes.link_leaf.Goals as goal

pub overflow_cast-len : goal.overflow_cast-len
overflow_cast-len c = omega (arith, c.len.ensures, sites_fit c.args.c.now c.requires.form)
