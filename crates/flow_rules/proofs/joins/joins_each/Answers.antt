use Rattle.std.proofs.Common.{arith}
use Rattle.flow_rules.proofs.Branches.{branch_of}
use Rattle.flow_rules.proofs.joins.joins_each.Goals as goal

pub joins_one-requires-clause-order : goal.joins_one-requires-clause-order
joins_one-requires-clause-order c =
    let order = (branch_of c.args.c.now c.args.p.fun c.args.join c.args.entries.now c.requires.branches c.loop-i.i c.loop-i-test.true).order in
    omega (arith, order, c.last_of-last.ensures)

pub joins_one-requires-clause-last : goal.joins_one-requires-clause-last
joins_one-requires-clause-last c =
    let last = (branch_of c.args.c.now c.args.p.fun c.args.join c.args.entries.now c.requires.branches c.loop-i.i c.loop-i-test.true).last in
    omega (arith, last, c.last_of-last.ensures)
