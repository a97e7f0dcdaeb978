use Rattle.std.proofs.Common.{◌≡◌, ◌+◌, ◌*◌, ◌++◌, length, take}
use Rattle.std.specs.List.{flat_map}
use Rattle.c_print.specs.TreeTokens as spec
use Rattle.c_print.proofs.tokens.Tokens.+stmt.Given as goal

-- Each call is made for fewer tokens, or for no more by a function that is named later here.
abbrev pub decreases-block_items : goal.decreases-block_items
decreases-block_items l = 4 * length (flat_map (spec.of_block_item spec.of_stmt) l.items.now) + 3

abbrev pub decreases-block_item : goal.decreases-block_item
decreases-block_item l = 4 * length (spec.of_block_item spec.of_stmt l.item.now) + 2

abbrev pub decreases-blocks : goal.decreases-blocks
decreases-blocks l = 4 * length (flat_map spec.of_block l.blocks.now) + 2

abbrev pub decreases-stmt : goal.decreases-stmt
decreases-stmt l = 4 * length (spec.of_stmt l.stmt.now) + 1

abbrev pub decreases-block : goal.decreases-block
decreases-block l = 4 * length (spec.of_block l.block.now)

abbrev pub invariant-block_items-loop-item : goal.invariant-block_items-loop-item
invariant-block_items-loop-item l = l.self ≡ l.fn.self ++ flat_map (spec.of_block_item spec.of_stmt) (take l.item-index l.items)

abbrev pub invariant-blocks-loop-block : goal.invariant-blocks-loop-block
invariant-blocks-loop-block l = l.self ≡ l.fn.self ++ flat_map spec.of_block (take l.block-index l.blocks)
