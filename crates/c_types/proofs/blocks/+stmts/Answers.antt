use Rattle.std.proofs.Common.{rules, ap, arith, sym, subst, Ok, Err, ◌≡◌, ◌≢◌, ◌∙◌}
use Rattle.c_typed.specs.declared.fault.TypeFault.{TypeFault}
use Rattle.c_types.specs.tools.Steps.{Leaves}
use Rattle.c_types.specs.tools.StmtWalk as walk
use Rattle.c_types.proofs.WalkLaws.{as_walk, leaves_same, then_leaves}
use Rattle.c_types.proofs.LeavesLaws.{told_leaves, first_told, then_told, as_told}
use Rattle.c_types.proofs.WalkStmtLevels.{walk_block, walk_empty, walk_simple, walk_return, walk_break, walk_continue, walk_if, walk_while, walk_for, walk_par}
use Rattle.c_types.proofs.StmtWeights.{weight, of_item, of_items, of_blocks, weight_block, weight_if, weight_while, weight_for, weight_par, item_within, block_within}
use Rattle.c_types.proofs.blocks.+stmts.Goals as goal

pub block_items-block_item-requires : goal.block_items-block_item-requires
block_items-block_item-requires t c =
    let h = item_within c.args.items.now c.loop-item.item-index c.item-item.result (omega arith) in
    let e = ap of_item c.item-item.is in
    (omega (arith, h, e), tt)

pub branches-branch-alloc-requires : goal.branches-branch-alloc-requires
branches-branch-alloc-requires t c =
    let h = block_within c.args.bs.now c.loop-b.b-index c.b-item.result (omega arith) in
    let e = ap (λ b. of_items b.items) c.b-item.is in
    (omega (arith, h, e), tt)

pub stmt-returns-in-Block : goal.stmt-returns-in-Block
stmt-returns-in-Block t c =
    let items : c.as_slice.result.now ≡ c.in-Block.b.items = search rules in
    as_walk c.braces.result _ _ _ (walk_block c.args.outline.now c.args.s.now c.in-Block.b c.args.around c.args.known.now c.in-Block.is)
    (subst (λ is. Leaves c.braces.result c.braces.new.known (walk.source_block_walk c.args.outline.now c.args.around is c.args.known.now)) items c.braces.ensures)

pub stmt-returns-in-Simple : goal.stmt-returns-in-Simple
stmt-returns-in-Simple t c =
    as_walk c.simple.result _ _ _ (walk_simple c.args.outline.now c.args.s.now c.in-Simple.s c.args.around c.args.known.now c.in-Simple.is)
    (leaves_same c.simple.result c.args.known.now _ c.simple.ensures)

pub stmt-returns-in-Return : goal.stmt-returns-in-Return
stmt-returns-in-Return t c =
    as_walk c.returned.result _ _ _ (walk_return c.args.outline.now c.args.s.now c.in-Return.line c.in-Return.value c.args.around c.args.known.now c.in-Return.is)
    (leaves_same c.returned.result c.args.known.now _ c.returned.ensures)

pub stmt-returns-in-Par : goal.stmt-returns-in-Par
stmt-returns-in-Par t c =
    let blocks : c.as_slice-in-Par.result.now ≡ c.in-Par.branches = search rules in
    as_walk c.par.result _ _ _ (walk_par c.args.outline.now c.args.s.now c.in-Par.line c.in-Par.branches c.args.around c.args.known.now c.in-Par.is)
    (subst (λ bs. Leaves c.par.result c.par.new.known (walk.source_par_walk c.args.outline.now c.in-Par.line bs c.args.known.now)) blocks c.par.ensures)

pub stmt-returns-in-Empty : goal.stmt-returns-in-Empty
stmt-returns-in-Empty t c =
    walk_empty c.args.outline.now c.args.s.now c.in-Empty.line c.args.around c.args.known.now c.in-Empty.is ∙ ap (λ s. Ok (s, c.args.known.now)) (sym c.empty.ensures)

pub stmt-returns-in-Break : goal.stmt-returns-in-Break
stmt-returns-in-Break t c =
    as_walk c.break_loop.result _ _ _ (walk_break c.args.outline.now c.args.s.now c.in-Break.line c.args.around c.args.known.now c.in-Break.is)
    (leaves_same c.break_loop.result c.args.known.now _ c.break_loop.ensures)

pub stmt-returns-in-Continue : goal.stmt-returns-in-Continue
stmt-returns-in-Continue t c =
    as_walk c.continue_loop.result _ _ _ (walk_continue c.args.outline.now c.args.s.now c.in-Continue.line c.args.around c.args.known.now c.in-Continue.is)
    (leaves_same c.continue_loop.result c.args.known.now _ c.continue_loop.ensures)

pub stmt-returns-in-While : goal.stmt-returns-in-While
stmt-returns-in-While t c =
    let w = walk_while c.args.outline.now c.args.s.now c.in-While.line c.in-While.condition c.in-While.body c.args.around c.args.known.now c.in-While.is in
    as_walk c.while_loop.result _ _ _ w
    (subst (λ b. Leaves c.while_loop.result c.while_loop.new.known (walk.scoped (walk.while_walk c.args.outline.now c.in-While.line c.in-While.condition (walk.stmt_walk c.args.outline.now b) c.args.around) c.args.known.now)) c.get-in-While.ensures c.while_loop.ensures)

pub stmt-returns-in-For : goal.stmt-returns-in-For
stmt-returns-in-For t c =
    let w = walk_for c.args.outline.now c.args.s.now c.in-For.line c.in-For.start c.in-For.condition c.in-For.step c.in-For.body c.args.around c.args.known.now c.in-For.is in
    as_walk c.for_loop.result _ _ _ w
    (subst (λ b. Leaves c.for_loop.result c.for_loop.new.known (walk.scoped (walk.for_walk c.args.outline.now c.in-For.line c.in-For.start c.in-For.condition c.in-For.step (walk.stmt_walk c.args.outline.now b) c.args.around) c.args.known.now)) c.get-in-For.ensures c.for_loop.ensures)

pub stmt-returns-in_err-condition-in-If : goal.stmt-returns-in_err-condition-in-If
stmt-returns-in_err-condition-in-If t c =
    let e = c.in_err-condition-in-If.field-0.0 in
    let told : c.from_residual.result ≡ Err e = search rules in
    let w = walk_if c.args.outline.now c.args.s.now c.in-If.line c.in-If.c c.in-If.first c.in-If.second c.args.around c.args.known.now c.in-If.is in
    told_leaves _ _ _ e told (as_told _ _ e w (first_told (walk.condition_walk c.args.outline.now c.args.known.now c.in-If.c) _ e c.in_err-condition-in-If.ensures))

pub stmt-returns-in_err-first-in-If : goal.stmt-returns-in_err-first-in-If
stmt-returns-in_err-first-in-If t c =
    let e = c.in_err-first-in-If.field-0.0 in
    let told : c.from_residual-in_err-first-in-If.result ≡ Err e = search rules in
    let w = walk_if c.args.outline.now c.args.s.now c.in-If.line c.in-If.c c.in-If.first c.in-If.second c.args.around c.args.known.now c.in-If.is in
    let first = subst (λ s. e ≢ TypeFault.Memory → walk.stmt_walk c.args.outline.now s c.args.around c.args.known.now ≡ Err e) c.get.ensures c.in_err-first-in-If.ensures in
    told_leaves _ _ _ e told
    (as_told _ _ e w
    (then_told (walk.condition_walk c.args.outline.now c.args.known.now c.in-If.c) _ c.in_ok-condition-in-If.condition e c.in_ok-condition-in-If.ensures
    (first_told (walk.stmt_walk c.args.outline.now c.in-If.first c.args.around c.args.known.now) _ e first)))

pub stmt-returns-in_ok-first-in-If : goal.stmt-returns-in_ok-first-in-If
stmt-returns-in_ok-first-in-If t c =
    let w = walk_if c.args.outline.now c.args.s.now c.in-If.line c.in-If.c c.in-If.first c.in-If.second c.args.around c.args.known.now c.in-If.is in
    let first = ap (λ s. walk.stmt_walk c.args.outline.now s c.args.around c.args.known.now) (sym c.get.ensures) ∙ c.in_ok-first-in-If.ensures in
    as_walk c.if_else.result _ _ _ w
    (then_leaves (walk.condition_walk c.args.outline.now c.args.known.now c.in-If.c) _ c.in_ok-condition-in-If.condition c.if_else.result _ c.in_ok-condition-in-If.ensures
    (then_leaves (walk.stmt_walk c.args.outline.now c.in-If.first c.args.around c.args.known.now) _ _ c.if_else.result _ first c.if_else.ensures))

pub stmt-braces-requires : goal.stmt-braces-requires
stmt-braces-requires t c =
    let items : c.as_slice.result.now ≡ c.in-Block.b.items = search rules in
    let e = weight_block c.args.s.now c.in-Block.b c.in-Block.is in
    let g = ap of_items items in
    (omega (arith, e, g), tt)

pub stmt-boxed-requires : goal.stmt-boxed-requires
stmt-boxed-requires t c =
    let e = weight_if c.args.s.now c.in-If.line c.in-If.c c.in-If.first c.in-If.second c.in-If.is in
    let g = ap weight c.get.ensures in
    (omega (arith, e, g), tt)

pub stmt-if_else-requires : goal.stmt-if_else-requires
stmt-if_else-requires t c = let e = weight_if c.args.s.now c.in-If.line c.in-If.c c.in-If.first c.in-If.second c.in-If.is in (omega (arith, e), tt)

pub stmt-while_loop-requires : goal.stmt-while_loop-requires
stmt-while_loop-requires t c =
    let e = weight_while c.args.s.now c.in-While.line c.in-While.condition c.in-While.body c.in-While.is in
    let g = ap weight c.get-in-While.ensures in
    (omega (arith, e, g), tt)

pub stmt-for_loop-requires : goal.stmt-for_loop-requires
stmt-for_loop-requires t c =
    let e = weight_for c.args.s.now c.in-For.line c.in-For.start c.in-For.condition c.in-For.step c.in-For.body c.in-For.is in
    let g = ap weight c.get-in-For.ensures in
    (omega (arith, e, g), tt)

pub stmt-par-requires : goal.stmt-par-requires
stmt-par-requires t c =
    let blocks : c.as_slice-in-Par.result.now ≡ c.in-Par.branches = search rules in
    let e = weight_par c.args.s.now c.in-Par.line c.in-Par.branches c.in-Par.is in
    let g = ap of_blocks blocks in
    (omega (arith, e, g), tt)
