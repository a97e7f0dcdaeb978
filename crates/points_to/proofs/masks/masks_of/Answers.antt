use Rattle.std.proofs.Common.{arith}
use Rattle.points_to.proofs.Marking.{all_marked}
use Rattle.points_to.proofs.masks.masks_of.Goals as goal

pub returns : goal.returns
returns c = all_marked c.args.c.now c.loop-node.node c.loop-node.masks.items (omega (arith, c.loop-node-test.false, c.requires.nodes)) c.loop-node.invariant
