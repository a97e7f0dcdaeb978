use Rattle.std.proofs.Common.{arith, ap, length}
use Rattle.flow_rules.proofs.InCode.{few_lines}
use Rattle.flow_rules.proofs.closure.open_for_points_in.Goals as goal

pub overflow_cast-at-end : goal.overflow_cast-at-end
overflow_cast-at-end c = omega (arith, few_lines c.args.c.now c.requires.form c.args.fun, ap length c.lines_of.ensures)
