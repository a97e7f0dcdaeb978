use Rattle.std.proofs.Common.{arith}
use Rattle.flow_rules.proofs.InCode.{few_lines}
use Rattle.flow_rules.proofs.flows.leads_from.Goals as goal

pub overflow_add-x : goal.overflow_add-x
overflow_add-x c = omega (arith, c.requires.next, few_lines c.args.c.now c.requires.form c.args.x.fun)
