use Rattle.std.proofs.Common.{arith}
use Rattle.tac_ir.specs.declared.module.Key.{Key}
use Rattle.points_to.proofs.Marking.{at_row}
use Rattle.points_to.proofs.Reading.{entries_turn}
use Rattle.points_to.proofs.answer.push_nodes.Goals as goal

pub loop-node-preserved : goal.loop-node-preserved
loop-node-preserved c =
    entries_turn c.args.c.now c.args.rows.now Key.Node c.loop-node.node c.args.list.now c.loop-node.list c.push_entry.new.list c.index-rows-node.result
    (at_row c.args.rows.now c.loop-node.node c.index-rows-node.result (omega (arith, c.loop-node-test.true, c.requires.rows, c.requires.row_map.nodes)) c.index-rows-node.is)
    c.loop-node.invariant c.in_ok-push_entry.ensures
