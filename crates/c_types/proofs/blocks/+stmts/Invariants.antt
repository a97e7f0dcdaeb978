use Rattle.std.proofs.Common.{◌+◌, ◌*◌}
use Rattle.c_types.specs.tools.Steps.{one}
use Rattle.c_types.specs.tools.StmtWalk.{source_item_walk, source_branch_walk}
use Rattle.c_types.proofs.EachLaws.{SoFar}
use Rattle.c_types.proofs.StmtWeights.{weight, of_item, of_items, of_blocks, of_other}
use Rattle.c_types.proofs.blocks.+stmts.Given as goal

-- Each call is made for a lighter part, or for one of the same weight by a function that is named later here.
abbrev pub decreases-stmt : goal.decreases-stmt
decreases-stmt l = 8 * weight l.s.now

abbrev pub decreases-boxed : goal.decreases-boxed
decreases-boxed l = 8 * weight l.s.now + 1

abbrev pub decreases-while_loop : goal.decreases-while_loop
decreases-while_loop l = 8 * weight l.body.now + 2

abbrev pub decreases-for_loop : goal.decreases-for_loop
decreases-for_loop l = 8 * weight l.body.now + 2

abbrev pub decreases-otherwise : goal.decreases-otherwise
decreases-otherwise l = 8 * of_other l.s.now + 2

abbrev pub decreases-if_else : goal.decreases-if_else
decreases-if_else l = 8 * of_other l.second.now + 3

abbrev pub decreases-block_item : goal.decreases-block_item
decreases-block_item l = 8 * of_item l.item.now + 1

abbrev pub decreases-block_items : goal.decreases-block_items
decreases-block_items l = 8 * of_items l.items.now + 2

abbrev pub decreases-block : goal.decreases-block
decreases-block l = 8 * of_items l.items.now + 3

abbrev pub decreases-braces : goal.decreases-braces
decreases-braces l = 8 * of_items l.items.now + 4

abbrev pub decreases-branch : goal.decreases-branch
decreases-branch l = 8 * of_items l.b.now.items + 4

abbrev pub decreases-branches : goal.decreases-branches
decreases-branches l = 8 * of_blocks l.bs.now + 5

abbrev pub decreases-par : goal.decreases-par
decreases-par l = 8 * of_blocks l.bs.now + 6

abbrev pub invariant-block_items-loop-item : goal.invariant-block_items-loop-item
invariant-block_items-loop-item l = SoFar one (source_item_walk l.outline l.around) l.items l.initial.known l.body l.known l.item-index

abbrev pub invariant-branches-loop-b : goal.invariant-branches-loop-b
invariant-branches-loop-b l = SoFar one (source_branch_walk l.outline) l.bs l.initial.known l.branches l.known l.b-index
