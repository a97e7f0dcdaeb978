use Rattle.std.proofs.Common.{arith}
use Rattle.flow_rules.proofs.Branches.{next_above, next_entry, next_join}
use Rattle.flow_rules.proofs.joins.last_of.Goals as goal

pub overflow_sub-result : goal.overflow_sub-result
overflow_sub-result c =
    omega (arith, next_above c.args.entries.now c.args.join c.args.i c.requires.ascends c.requires.i, next_entry c.args.entries.now c.args.join c.args.i c.if-i-entries.true)

pub overflow_sub-result-else-i-entries : goal.overflow_sub-result-else-i-entries
overflow_sub-result-else-i-entries c =
    omega (arith, next_above c.args.entries.now c.args.join c.args.i c.requires.ascends c.requires.i, next_join c.args.entries.now c.args.join c.args.i c.requires.i (omega (arith, c.if-i-entries.false)))
