use Rattle.std.proofs.Common.{arith, ap, length}
use Rattle.c_print.specs.TreeTokens as spec
use Rattle.c_print.proofs.StmtForms.{for_body, item_tokens}
use Rattle.c_print.proofs.tokens.Tokens.+stmt.Goals as goal

pub block_items-block_item-requires : goal.block_items-block_item-requires
block_items-block_item-requires t c =
    let h = item_tokens (spec.of_block_item spec.of_stmt) c.args.items.now c.loop-item.item-index c.item-item.result (omega arith) in
    let e = ap (λ x. length (spec.of_block_item spec.of_stmt x)) c.item-item.is in
    (omega (arith, h, e), tt)

pub blocks-block-requires : goal.blocks-block-requires
blocks-block-requires t c =
    let h = item_tokens spec.of_block c.args.blocks.now c.loop-block.block-index c.block-item.result (omega arith) in
    let e = ap (λ x. length (spec.of_block x)) c.block-item.is in
    (omega (arith, h, e), tt)

pub stmt-stmt-requires-in-For : goal.stmt-stmt-requires-in-For
stmt-stmt-requires-in-For t c =
    let e = for_body c.in-For.line c.in-For.start c.in-For.condition c.in-For.step c.in-For.body in
    let whole = ap (λ x. length (spec.of_stmt x)) c.in-For.is in
    let body = ap (λ x. length (spec.of_stmt x)) c.get-in-For.ensures in
    (omega arith, tt)
