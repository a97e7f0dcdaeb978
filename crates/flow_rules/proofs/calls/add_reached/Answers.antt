use Rattle.std.proofs.Common.{arith, length, subst}
use Rattle.flow_rules.specs.tools.Reached.{HasAllCalls}
use Rattle.flow_rules.proofs.Reached.{growing_none, growing_next, all_reached}
use Rattle.flow_rules.proofs.calls.add_reached.Goals as goal

pub loop-init : goal.loop-init
loop-init c = growing_none c.args.c.now c.args.set.now

pub loop-preserved : goal.loop-preserved
loop-preserved c =
    growing_next c.args.c.now c.args.set.now c.loop.set c.add_all_calls.new.set (length c.args.c.now.funs) c.add_all_calls.result c.loop.invariant c.add_all_calls.ensures

pub returns : goal.returns
returns c =
    all_reached c.args.c.now c.args.set.now c.loop.set c.add_all_calls.new.set (length c.args.c.now.funs) (omega arith) c.loop.invariant
    (subst (HasAllCalls c.args.c.now (length c.args.c.now.funs) c.loop.set c.add_all_calls.new.set) c.loop-test.false c.add_all_calls.ensures)
