use Rattle.std.proofs.Common.{rules, map, ◌≡◌, ◌+◌, ◌≤◌, add-zero, Ok, Err, option_map, refl, ap, sym, ◌∙◌, subst, arith}
use Rattle.tac_lower.specs.declared.draft.Ends.{Ends}
use Rattle.tac_lower.specs.tools.Emits.{Emits, Counts}
use Rattle.tac_lower.specs.tools.Nested.{Forks, branch, closed, guarded, skipped}
use Rattle.tac_lower.specs.Parts.{in_turn, ◌⨟◌}
use Rattle.tac_lower.specs.Instrs.{jump, skip}
use Rattle.tac_lower.specs.Stmts.{around_by, stmt, condition, guard, choice, while, for, fork, branches, stop}
use Rattle.tac_lower.proofs.emitted.Chains.{counted_stopped, too_long, dry_stopped}
use Rattle.tac_lower.proofs.emitted.Gathers.{left_from}
use Rattle.tac_lower.proofs.emitted.Follows.{next, halt, exactly, regroup, leaves_loop}
use Rattle.tac_lower.proofs.emitted.StmtForms as form
use Rattle.tac_lower.proofs.emitted.Turns.{next_item, no_item, no_more}
use Rattle.tac_lower.proofs.emitted.Loops.{condition_steady, guard_steady, tested, untested, both_counted, while_turned, while_unturned, while_uncounted, while_body, while_round, while_unrounded, for_turned, for_unturned, for_uncounted, for_step_uncounted, for_body, for_round, for_unrounded}
use Rattle.tac_lower.proofs.emitted.Forking.{fork_more, fork_done, fork_full, branch_full, forked, unforked}
use Rattle.tac_lower.proofs.emitted.StmtWeights.{weight, total, bodies, total_at, bodies_at, block_weight, if_weight, else_weight, while_weight, for_weight, par_weight}
use Rattle.tac_lower.proofs.emitted.WellParts.{stmt_at, branch_at, block_well, if_well, else_well, while_well, for_well, par_well}
use Rattle.tac_lower.specs.tools.Well.{WellStmt, WellStmts, WellBranches}
use Rattle.tac_lower.proofs.writer.Writer.+stmts.Goals as goal

pub stmt-returns-in-Block : goal.stmt-returns-in-Block
stmt-returns-in-Block t c =
    subst (λ p. Emits p c.args.ends c.args.self.now c.stmts.new.self c.stmts.result) (sym (form.block_is (around_by c.args.structs.now c.args.in_main) c.args.s.now c.in-Block.items c.in-Block.is)) (subst (λ ss. Emits (in_turn (map (stmt (around_by c.args.structs.now c.args.in_main)) ss)) c.args.ends c.args.self.now c.stmts.new.self c.stmts.result) c.as_slice.ensures c.stmts.ensures)

pub stmt-returns-in-Assign : goal.stmt-returns-in-Assign
stmt-returns-in-Assign t c =
    subst (λ p. Emits p c.args.ends c.args.self.now c.assignment.new.self c.assignment.result) (sym (form.assign_is (around_by c.args.structs.now c.args.in_main) c.args.s.now c.in-Assign.line c.in-Assign.target c.in-Assign.op c.in-Assign.value c.in-Assign.is)) (c.assignment.ensures c.args.ends)

pub stmt-returns-in-Increment : goal.stmt-returns-in-Increment
stmt-returns-in-Increment t c =
    subst (λ p. Emits p c.args.ends c.args.self.now c.step.new.self c.step.result) (sym (form.increment_is (around_by c.args.structs.now c.args.in_main) c.args.s.now c.in-Increment.line c.in-Increment.target c.in-Increment.is)) (c.step.ensures c.args.ends)

pub stmt-returns-in-Decrement : goal.stmt-returns-in-Decrement
stmt-returns-in-Decrement t c =
    subst (λ p. Emits p c.args.ends c.args.self.now c.step-in-Decrement.new.self c.step-in-Decrement.result) (sym (form.decrement_is (around_by c.args.structs.now c.args.in_main) c.args.s.now c.in-Decrement.line c.in-Decrement.target c.in-Decrement.is)) (c.step-in-Decrement.ensures c.args.ends)

pub stmt-returns-in-Call : goal.stmt-returns-in-Call
stmt-returns-in-Call t c =
    subst (λ p. Emits p c.args.ends c.args.self.now c.argument.new.self c.argument.result) (sym (form.call_is (around_by c.args.structs.now c.args.in_main) c.args.s.now c.in-Call.line c.in-Call.call c.in-Call.is)) (c.argument.ensures c.args.ends)

pub stmt-returns-in-PutInt : goal.stmt-returns-in-PutInt
stmt-returns-in-PutInt t c =
    subst (λ p. Emits p c.args.ends c.args.self.now c.put_int.new.self c.put_int.result) (sym (form.putint_is (around_by c.args.structs.now c.args.in_main) c.args.s.now c.in-PutInt.line c.in-PutInt.value c.in-PutInt.is)) (c.put_int.ensures c.args.ends)

pub stmt-returns-in-Free : goal.stmt-returns-in-Free
stmt-returns-in-Free t c =
    subst (λ p. Emits p c.args.ends c.args.self.now c.free.new.self c.free.result) (sym (form.free_is (around_by c.args.structs.now c.args.in_main) c.args.s.now c.in-Free.line c.in-Free.pointer c.in-Free.is)) (c.free.ensures c.args.ends)

pub stmt-returns-in-Return : goal.stmt-returns-in-Return
stmt-returns-in-Return t c =
    subst (λ p. Emits p c.args.ends c.args.self.now c.give.new.self c.give.result) (sym (form.return_is (around_by c.args.structs.now c.args.in_main) c.args.s.now c.in-Return.line c.in-Return.value c.in-Return.is)) (c.give.ensures c.args.ends)

pub stmt-returns-in-Break : goal.stmt-returns-in-Break
stmt-returns-in-Break t c =
    subst (λ p. Emits p c.args.ends c.args.self.now c.jump.new.self c.jump.result) (sym (form.break_is (around_by c.args.structs.now c.args.in_main) c.args.s.now c.in-Break.line c.in-Break.is)) (leaves_loop c.in-Break.line.0 (λ ends. ends.leave) c.args.ends c.args.self.now c.jump.new.self c.jump.result (c.jump.ensures c.args.ends))

pub stmt-returns-in-Continue : goal.stmt-returns-in-Continue
stmt-returns-in-Continue t c =
    subst (λ p. Emits p c.args.ends c.args.self.now c.jump-in-Continue.new.self c.jump-in-Continue.result) (sym (form.continue_is (around_by c.args.structs.now c.args.in_main) c.args.s.now c.in-Continue.line c.in-Continue.is)) (leaves_loop c.in-Continue.line.0 (λ ends. ends.again) c.args.ends c.args.self.now c.jump-in-Continue.new.self c.jump-in-Continue.result (c.jump-in-Continue.ensures c.args.ends))

pub stmt-returns-in-None : goal.stmt-returns-in-None
stmt-returns-in-None t c =
    subst (λ p. Emits p c.args.ends c.args.self.now c.when.new.self c.when.result) (sym (form.if_is (around_by c.args.structs.now c.args.in_main) c.args.s.now c.in-If.line c.in-If.condition c.in-If.first c.in-If.second c.in-If.is ∙ ap (λ o. choice c.in-If.line.0 (condition (around_by c.args.structs.now c.args.in_main) c.in-If.condition) (stmt (around_by c.args.structs.now c.args.in_main) c.in-If.first) (option_map (stmt (around_by c.args.structs.now c.args.in_main)) o)) c.in-None.is))
    (subst (λ k. Emits ((condition (around_by c.args.structs.now c.args.in_main) c.in-If.condition) k ⨟ (stmt (around_by c.args.structs.now c.args.in_main) c.in-If.first)) c.args.ends c.args.self.now c.when.new.self c.when.result) (add-zero (stmt (around_by c.args.structs.now c.args.in_main) c.in-If.first).points) c.when.ensures)

pub stmt-returns-in_ok-when-in-Some : goal.stmt-returns-in_ok-when-in-Some
stmt-returns-in_ok-when-in-Some t c =
    subst (λ p. Emits p c.args.ends c.args.self.now c.otherwise.new.self c.otherwise.result) (sym (form.if_is (around_by c.args.structs.now c.args.in_main) c.args.s.now c.in-If.line c.in-If.condition c.in-If.first c.in-If.second c.in-If.is ∙ ap (λ o. choice c.in-If.line.0 (condition (around_by c.args.structs.now c.args.in_main) c.in-If.condition) (stmt (around_by c.args.structs.now c.args.in_main) c.in-If.first) (option_map (stmt (around_by c.args.structs.now c.args.in_main)) o)) c.in-Some.is))
    (regroup ((condition (around_by c.args.structs.now c.args.in_main) c.in-If.condition) ((stmt (around_by c.args.structs.now c.args.in_main) c.in-If.first).points + 1)) (stmt (around_by c.args.structs.now c.args.in_main) c.in-If.first) (skipped (around_by c.args.structs.now c.args.in_main) c.in-If.line.0 c.in-Some.second) c.args.ends c.args.self.now c.otherwise.new.self c.otherwise.result
    (next (guarded (around_by c.args.structs.now c.args.in_main) c.in-If.condition c.in-If.first 1) (skipped (around_by c.args.structs.now c.args.in_main) c.in-If.line.0 c.in-Some.second) c.args.ends c.args.self.now c.when-in-Some.new.self c.otherwise.new.self c.in_ok-when-in-Some.field-0 c.otherwise.result c.in_ok-when-in-Some.ensures c.otherwise.ensures))

pub stmt-returns-in_err-when-in-Some : goal.stmt-returns-in_err-when-in-Some
stmt-returns-in_err-when-in-Some t c =
    let told : c.from_residual.result ≡ Err c.in_err-when-in-Some.field-0.0 = search rules in
    subst (λ r. Emits (stmt (around_by c.args.structs.now c.args.in_main) c.args.s.now) c.args.ends c.args.self.now c.when-in-Some.new.self r) (sym told)
    (subst (λ p. Emits p c.args.ends c.args.self.now c.when-in-Some.new.self (Err c.in_err-when-in-Some.field-0.0)) (sym (form.if_is (around_by c.args.structs.now c.args.in_main) c.args.s.now c.in-If.line c.in-If.condition c.in-If.first c.in-If.second c.in-If.is ∙ ap (λ o. choice c.in-If.line.0 (condition (around_by c.args.structs.now c.args.in_main) c.in-If.condition) (stmt (around_by c.args.structs.now c.args.in_main) c.in-If.first) (option_map (stmt (around_by c.args.structs.now c.args.in_main)) o)) c.in-Some.is))
    (regroup ((condition (around_by c.args.structs.now c.args.in_main) c.in-If.condition) ((stmt (around_by c.args.structs.now c.args.in_main) c.in-If.first).points + 1)) (stmt (around_by c.args.structs.now c.args.in_main) c.in-If.first) (skipped (around_by c.args.structs.now c.args.in_main) c.in-If.line.0 c.in-Some.second) c.args.ends c.args.self.now c.when-in-Some.new.self (Err c.in_err-when-in-Some.field-0.0)
    (halt (guarded (around_by c.args.structs.now c.args.in_main) c.in-If.condition c.in-If.first 1) (skipped (around_by c.args.structs.now c.args.in_main) c.in-If.line.0 c.in-Some.second) c.args.ends c.args.self.now c.when-in-Some.new.self c.in_err-when-in-Some.field-0.0 c.in_err-when-in-Some.ensures)))

pub stmt-returns-in-While : goal.stmt-returns-in-While
stmt-returns-in-While t c =
    subst (λ p. Emits p c.args.ends c.args.self.now c.while_loop.new.self c.while_loop.result) (sym (form.while_is (around_by c.args.structs.now c.args.in_main) c.args.s.now c.in-While.line c.in-While.condition c.in-While.body c.in-While.is)) (c.while_loop.ensures c.args.ends)

pub stmt-returns-in-Par : goal.stmt-returns-in-Par
stmt-returns-in-Par t c =
    subst (λ p. Emits p c.args.ends c.args.self.now c.par.new.self c.par.result) (sym (form.par_is (around_by c.args.structs.now c.args.in_main) c.args.s.now c.in-Par.line c.in-Par.branches c.in-Par.is)) (subst (λ bs. Emits (branches c.in-Par.line.0 (map (branch (around_by c.args.structs.now c.args.in_main)) bs)) c.args.ends c.args.self.now c.par.new.self c.par.result) c.as_slice-in-Par.ensures c.par.ensures)

pub stmt-returns-in_ok-stmt-in-For-3 : goal.stmt-returns-in_ok-stmt-in-For-3
stmt-returns-in_ok-stmt-in-For-3 t c =
    subst (λ p. Emits p c.args.ends c.args.self.now c.jump-in-For.new.self (c.jump-in-For.result)) (sym (form.for_is (around_by c.args.structs.now c.args.in_main) c.args.s.now c.in-For.line c.in-For.start c.in-For.condition c.in-For.step c.in-For.body c.in-For.is))
    (next (stmt (around_by c.args.structs.now c.args.in_main) c.in-For.start) (for c.in-For.line.0 (guard (around_by c.args.structs.now c.args.in_main) c.in-For.condition) (stmt (around_by c.args.structs.now c.args.in_main) c.in-For.step) (stmt (around_by c.args.structs.now c.args.in_main) c.in-For.body)) c.args.ends c.args.self.now c.stmt.new.self c.jump-in-For.new.self c.in_ok-stmt-in-For.field-0 (c.jump-in-For.result)
    (subst (λ s. Emits (stmt (around_by c.args.structs.now c.args.in_main) s) c.args.ends c.args.self.now c.stmt.new.self (Ok c.in_ok-stmt-in-For.field-0)) c.get.ensures c.in_ok-stmt-in-For.ensures)
    (for_turned c.in-For.line.0 (guard (around_by c.args.structs.now c.args.in_main) c.in-For.condition) (stmt (around_by c.args.structs.now c.args.in_main) c.in-For.step) (stmt (around_by c.args.structs.now c.args.in_main) c.in-For.body) c.args.ends c.stmt.new.self c.turn.new.self c.jump-in-For.new.self c.in_ok-turn-in-For.field-0 (c.jump-in-For.result) (c.in_ok-turn-in-For.ensures c.args.ends)
    (tested (guard (around_by c.args.structs.now c.args.in_main) c.in-For.condition) (for_body c.in-For.line.0 (stmt (around_by c.args.structs.now c.args.in_main) c.in-For.step) (stmt (around_by c.args.structs.now c.args.in_main) c.in-For.body) c.stmt.new.self.next.at) ((stmt (around_by c.args.structs.now c.args.in_main) c.in-For.body).points + (stmt (around_by c.args.structs.now c.args.in_main) c.in-For.step).points) (c.in_ok-past-in-For.past + c.in_ok-more-in-For.more) 1 c.args.ends c.turn.new.self c.guard.new.self c.jump-in-For.new.self c.in_ok-guard-in-For.field-0 (c.jump-in-For.result) (guard_steady (around_by c.args.structs.now c.args.in_main) c.in-For.condition) (both_counted (stmt (around_by c.args.structs.now c.args.in_main) c.in-For.body).points (stmt (around_by c.args.structs.now c.args.in_main) c.in-For.step).points c.in_ok-past-in-For.past c.in_ok-more-in-For.more c.turn.new.self c.in_ok-past-in-For.ensures c.in_ok-more-in-For.ensures) (c.in_ok-guard-in-For.ensures c.args.in_main c.args.ends)
    (for_round c.in-For.line.0 (stmt (around_by c.args.structs.now c.args.in_main) c.in-For.step) (stmt (around_by c.args.structs.now c.args.in_main) c.in-For.body) c.stmt.new.self.next.at c.in_ok-past-in-For.past c.in_ok-more-in-For.more c.args.ends c.turn.new.self c.guard.new.self c.stmt-in-For.new.self c.jump-in-For.new.self c.in_ok-stmt-in-For-2.field-0 (c.jump-in-For.result) (c.in_ok-guard-in-For.ensures c.args.in_main c.args.ends).dry c.in_ok-past-in-For.ensures c.in_ok-more-in-For.ensures
    (subst (λ s. Emits (stmt (around_by c.args.structs.now c.args.in_main) s) (record { leave = c.guard.new.self.next.at + c.in_ok-past-in-For.past + c.in_ok-more-in-For.more + 1; again = c.guard.new.self.next.at + c.in_ok-past-in-For.past }) c.guard.new.self c.stmt-in-For.new.self (Ok c.in_ok-stmt-in-For-2.field-0)) c.get-in-For.ensures c.in_ok-stmt-in-For-2.ensures)
    (next (stmt (around_by c.args.structs.now c.args.in_main) c.in-For.step) (jump c.in-For.line.0 c.stmt.new.self.next.at) c.args.ends c.stmt-in-For.new.self c.stmt-in-For-2.new.self c.jump-in-For.new.self c.in_ok-stmt-in-For-3.field-0 c.jump-in-For.result (subst (λ s. Emits (stmt (around_by c.args.structs.now c.args.in_main) s) c.args.ends c.stmt-in-For.new.self c.stmt-in-For-2.new.self (Ok c.in_ok-stmt-in-For-3.field-0)) c.get-in-For-2.ensures c.in_ok-stmt-in-For-3.ensures) (c.jump-in-For.ensures c.args.ends))))))

pub stmt-returns-in_err-stmt-in-For : goal.stmt-returns-in_err-stmt-in-For
stmt-returns-in_err-stmt-in-For t c =
    let told : c.from_residual-in_err-stmt-in-For.result ≡ Err c.in_err-stmt-in-For.field-0.0 = search rules in
    subst (λ r. Emits (stmt (around_by c.args.structs.now c.args.in_main) c.args.s.now) c.args.ends c.args.self.now c.stmt.new.self r) (sym told)
    (subst (λ p. Emits p c.args.ends c.args.self.now c.stmt.new.self (Err c.in_err-stmt-in-For.field-0.0)) (sym (form.for_is (around_by c.args.structs.now c.args.in_main) c.args.s.now c.in-For.line c.in-For.start c.in-For.condition c.in-For.step c.in-For.body c.in-For.is))
    (halt (stmt (around_by c.args.structs.now c.args.in_main) c.in-For.start) (for c.in-For.line.0 (guard (around_by c.args.structs.now c.args.in_main) c.in-For.condition) (stmt (around_by c.args.structs.now c.args.in_main) c.in-For.step) (stmt (around_by c.args.structs.now c.args.in_main) c.in-For.body)) c.args.ends c.args.self.now c.stmt.new.self c.in_err-stmt-in-For.field-0.0
    (subst (λ s. Emits (stmt (around_by c.args.structs.now c.args.in_main) s) c.args.ends c.args.self.now c.stmt.new.self (Err c.in_err-stmt-in-For.field-0.0)) c.get.ensures c.in_err-stmt-in-For.ensures)))

pub stmt-returns-in_err-turn-in-For : goal.stmt-returns-in_err-turn-in-For
stmt-returns-in_err-turn-in-For t c =
    let told : c.from_residual-in_err-turn-in-For.result ≡ Err c.in_err-turn-in-For.field-0.0 = search rules in
    subst (λ r. Emits (stmt (around_by c.args.structs.now c.args.in_main) c.args.s.now) c.args.ends c.args.self.now c.turn.new.self r) (sym told)
    (subst (λ p. Emits p c.args.ends c.args.self.now c.turn.new.self (Err c.in_err-turn-in-For.field-0.0)) (sym (form.for_is (around_by c.args.structs.now c.args.in_main) c.args.s.now c.in-For.line c.in-For.start c.in-For.condition c.in-For.step c.in-For.body c.in-For.is))
    (next (stmt (around_by c.args.structs.now c.args.in_main) c.in-For.start) (for c.in-For.line.0 (guard (around_by c.args.structs.now c.args.in_main) c.in-For.condition) (stmt (around_by c.args.structs.now c.args.in_main) c.in-For.step) (stmt (around_by c.args.structs.now c.args.in_main) c.in-For.body)) c.args.ends c.args.self.now c.stmt.new.self c.turn.new.self c.in_ok-stmt-in-For.field-0 (Err c.in_err-turn-in-For.field-0.0)
    (subst (λ s. Emits (stmt (around_by c.args.structs.now c.args.in_main) s) c.args.ends c.args.self.now c.stmt.new.self (Ok c.in_ok-stmt-in-For.field-0)) c.get.ensures c.in_ok-stmt-in-For.ensures)
    (for_unturned c.in-For.line.0 (guard (around_by c.args.structs.now c.args.in_main) c.in-For.condition) (stmt (around_by c.args.structs.now c.args.in_main) c.in-For.step) (stmt (around_by c.args.structs.now c.args.in_main) c.in-For.body) c.args.ends c.stmt.new.self c.turn.new.self c.in_err-turn-in-For.field-0.0 (c.in_err-turn-in-For.ensures c.args.ends))))

pub stmt-returns-in_err-past-in-For : goal.stmt-returns-in_err-past-in-For
stmt-returns-in_err-past-in-For t c =
    let told : c.from_residual-in_err-past-in-For.result ≡ Err c.in_err-past-in-For.field-0.0 = search rules in
    subst (λ r. Emits (stmt (around_by c.args.structs.now c.args.in_main) c.args.s.now) c.args.ends c.args.self.now c.turn.new.self r) (sym told)
    (subst (λ p. Emits p c.args.ends c.args.self.now c.turn.new.self (Err c.in_err-past-in-For.field-0.0)) (sym (form.for_is (around_by c.args.structs.now c.args.in_main) c.args.s.now c.in-For.line c.in-For.start c.in-For.condition c.in-For.step c.in-For.body c.in-For.is))
    (next (stmt (around_by c.args.structs.now c.args.in_main) c.in-For.start) (for c.in-For.line.0 (guard (around_by c.args.structs.now c.args.in_main) c.in-For.condition) (stmt (around_by c.args.structs.now c.args.in_main) c.in-For.step) (stmt (around_by c.args.structs.now c.args.in_main) c.in-For.body)) c.args.ends c.args.self.now c.stmt.new.self c.turn.new.self c.in_ok-stmt-in-For.field-0 (Err c.in_err-past-in-For.field-0.0)
    (subst (λ s. Emits (stmt (around_by c.args.structs.now c.args.in_main) s) c.args.ends c.args.self.now c.stmt.new.self (Ok c.in_ok-stmt-in-For.field-0)) c.get.ensures c.in_ok-stmt-in-For.ensures)
    (for_turned c.in-For.line.0 (guard (around_by c.args.structs.now c.args.in_main) c.in-For.condition) (stmt (around_by c.args.structs.now c.args.in_main) c.in-For.step) (stmt (around_by c.args.structs.now c.args.in_main) c.in-For.body) c.args.ends c.stmt.new.self c.turn.new.self c.turn.new.self c.in_ok-turn-in-For.field-0 (Err c.in_err-past-in-For.field-0.0) (c.in_ok-turn-in-For.ensures c.args.ends)
    (for_uncounted c.in-For.line.0 (guard (around_by c.args.structs.now c.args.in_main) c.in-For.condition) (stmt (around_by c.args.structs.now c.args.in_main) c.in-For.step) (stmt (around_by c.args.structs.now c.args.in_main) c.in-For.body) c.stmt.new.self.next.at c.args.ends c.turn.new.self c.in_err-past-in-For.field-0.0 c.in_err-past-in-For.ensures))))

pub stmt-returns-in_err-more-in-For : goal.stmt-returns-in_err-more-in-For
stmt-returns-in_err-more-in-For t c =
    let told : c.from_residual-in_err-more-in-For.result ≡ Err c.in_err-more-in-For.field-0.0 = search rules in
    subst (λ r. Emits (stmt (around_by c.args.structs.now c.args.in_main) c.args.s.now) c.args.ends c.args.self.now c.turn.new.self r) (sym told)
    (subst (λ p. Emits p c.args.ends c.args.self.now c.turn.new.self (Err c.in_err-more-in-For.field-0.0)) (sym (form.for_is (around_by c.args.structs.now c.args.in_main) c.args.s.now c.in-For.line c.in-For.start c.in-For.condition c.in-For.step c.in-For.body c.in-For.is))
    (next (stmt (around_by c.args.structs.now c.args.in_main) c.in-For.start) (for c.in-For.line.0 (guard (around_by c.args.structs.now c.args.in_main) c.in-For.condition) (stmt (around_by c.args.structs.now c.args.in_main) c.in-For.step) (stmt (around_by c.args.structs.now c.args.in_main) c.in-For.body)) c.args.ends c.args.self.now c.stmt.new.self c.turn.new.self c.in_ok-stmt-in-For.field-0 (Err c.in_err-more-in-For.field-0.0)
    (subst (λ s. Emits (stmt (around_by c.args.structs.now c.args.in_main) s) c.args.ends c.args.self.now c.stmt.new.self (Ok c.in_ok-stmt-in-For.field-0)) c.get.ensures c.in_ok-stmt-in-For.ensures)
    (for_turned c.in-For.line.0 (guard (around_by c.args.structs.now c.args.in_main) c.in-For.condition) (stmt (around_by c.args.structs.now c.args.in_main) c.in-For.step) (stmt (around_by c.args.structs.now c.args.in_main) c.in-For.body) c.args.ends c.stmt.new.self c.turn.new.self c.turn.new.self c.in_ok-turn-in-For.field-0 (Err c.in_err-more-in-For.field-0.0) (c.in_ok-turn-in-For.ensures c.args.ends)
    (for_step_uncounted c.in-For.line.0 (guard (around_by c.args.structs.now c.args.in_main) c.in-For.condition) (stmt (around_by c.args.structs.now c.args.in_main) c.in-For.step) (stmt (around_by c.args.structs.now c.args.in_main) c.in-For.body) c.stmt.new.self.next.at c.args.ends c.turn.new.self c.in_err-more-in-For.field-0.0 c.in_err-more-in-For.ensures))))

pub stmt-returns-in_err-guard-in-For : goal.stmt-returns-in_err-guard-in-For
stmt-returns-in_err-guard-in-For t c =
    let told : c.from_residual-in_err-guard-in-For.result ≡ Err c.in_err-guard-in-For.field-0.0 = search rules in
    subst (λ r. Emits (stmt (around_by c.args.structs.now c.args.in_main) c.args.s.now) c.args.ends c.args.self.now c.guard.new.self r) (sym told)
    (subst (λ p. Emits p c.args.ends c.args.self.now c.guard.new.self (Err c.in_err-guard-in-For.field-0.0)) (sym (form.for_is (around_by c.args.structs.now c.args.in_main) c.args.s.now c.in-For.line c.in-For.start c.in-For.condition c.in-For.step c.in-For.body c.in-For.is))
    (next (stmt (around_by c.args.structs.now c.args.in_main) c.in-For.start) (for c.in-For.line.0 (guard (around_by c.args.structs.now c.args.in_main) c.in-For.condition) (stmt (around_by c.args.structs.now c.args.in_main) c.in-For.step) (stmt (around_by c.args.structs.now c.args.in_main) c.in-For.body)) c.args.ends c.args.self.now c.stmt.new.self c.guard.new.self c.in_ok-stmt-in-For.field-0 (Err c.in_err-guard-in-For.field-0.0)
    (subst (λ s. Emits (stmt (around_by c.args.structs.now c.args.in_main) s) c.args.ends c.args.self.now c.stmt.new.self (Ok c.in_ok-stmt-in-For.field-0)) c.get.ensures c.in_ok-stmt-in-For.ensures)
    (for_turned c.in-For.line.0 (guard (around_by c.args.structs.now c.args.in_main) c.in-For.condition) (stmt (around_by c.args.structs.now c.args.in_main) c.in-For.step) (stmt (around_by c.args.structs.now c.args.in_main) c.in-For.body) c.args.ends c.stmt.new.self c.turn.new.self c.guard.new.self c.in_ok-turn-in-For.field-0 (Err c.in_err-guard-in-For.field-0.0) (c.in_ok-turn-in-For.ensures c.args.ends)
    (untested (guard (around_by c.args.structs.now c.args.in_main) c.in-For.condition) (for_body c.in-For.line.0 (stmt (around_by c.args.structs.now c.args.in_main) c.in-For.step) (stmt (around_by c.args.structs.now c.args.in_main) c.in-For.body) c.stmt.new.self.next.at) ((stmt (around_by c.args.structs.now c.args.in_main) c.in-For.body).points + (stmt (around_by c.args.structs.now c.args.in_main) c.in-For.step).points) (c.in_ok-past-in-For.past + c.in_ok-more-in-For.more) 1 c.args.ends c.turn.new.self c.guard.new.self c.in_err-guard-in-For.field-0.0 (guard_steady (around_by c.args.structs.now c.args.in_main) c.in-For.condition) (c.in_err-guard-in-For.ensures c.args.in_main c.args.ends)))))

pub stmt-returns-in_err-stmt-in-For-2 : goal.stmt-returns-in_err-stmt-in-For-2
stmt-returns-in_err-stmt-in-For-2 t c =
    let told : c.from_residual-in_err-stmt-in-For-2.result ≡ Err c.in_err-stmt-in-For-2.field-0.0 = search rules in
    subst (λ r. Emits (stmt (around_by c.args.structs.now c.args.in_main) c.args.s.now) c.args.ends c.args.self.now c.stmt-in-For.new.self r) (sym told)
    (subst (λ p. Emits p c.args.ends c.args.self.now c.stmt-in-For.new.self (Err c.in_err-stmt-in-For-2.field-0.0)) (sym (form.for_is (around_by c.args.structs.now c.args.in_main) c.args.s.now c.in-For.line c.in-For.start c.in-For.condition c.in-For.step c.in-For.body c.in-For.is))
    (next (stmt (around_by c.args.structs.now c.args.in_main) c.in-For.start) (for c.in-For.line.0 (guard (around_by c.args.structs.now c.args.in_main) c.in-For.condition) (stmt (around_by c.args.structs.now c.args.in_main) c.in-For.step) (stmt (around_by c.args.structs.now c.args.in_main) c.in-For.body)) c.args.ends c.args.self.now c.stmt.new.self c.stmt-in-For.new.self c.in_ok-stmt-in-For.field-0 (Err c.in_err-stmt-in-For-2.field-0.0)
    (subst (λ s. Emits (stmt (around_by c.args.structs.now c.args.in_main) s) c.args.ends c.args.self.now c.stmt.new.self (Ok c.in_ok-stmt-in-For.field-0)) c.get.ensures c.in_ok-stmt-in-For.ensures)
    (for_turned c.in-For.line.0 (guard (around_by c.args.structs.now c.args.in_main) c.in-For.condition) (stmt (around_by c.args.structs.now c.args.in_main) c.in-For.step) (stmt (around_by c.args.structs.now c.args.in_main) c.in-For.body) c.args.ends c.stmt.new.self c.turn.new.self c.stmt-in-For.new.self c.in_ok-turn-in-For.field-0 (Err c.in_err-stmt-in-For-2.field-0.0) (c.in_ok-turn-in-For.ensures c.args.ends)
    (tested (guard (around_by c.args.structs.now c.args.in_main) c.in-For.condition) (for_body c.in-For.line.0 (stmt (around_by c.args.structs.now c.args.in_main) c.in-For.step) (stmt (around_by c.args.structs.now c.args.in_main) c.in-For.body) c.stmt.new.self.next.at) ((stmt (around_by c.args.structs.now c.args.in_main) c.in-For.body).points + (stmt (around_by c.args.structs.now c.args.in_main) c.in-For.step).points) (c.in_ok-past-in-For.past + c.in_ok-more-in-For.more) 1 c.args.ends c.turn.new.self c.guard.new.self c.stmt-in-For.new.self c.in_ok-guard-in-For.field-0 (Err c.in_err-stmt-in-For-2.field-0.0) (guard_steady (around_by c.args.structs.now c.args.in_main) c.in-For.condition) (both_counted (stmt (around_by c.args.structs.now c.args.in_main) c.in-For.body).points (stmt (around_by c.args.structs.now c.args.in_main) c.in-For.step).points c.in_ok-past-in-For.past c.in_ok-more-in-For.more c.turn.new.self c.in_ok-past-in-For.ensures c.in_ok-more-in-For.ensures) (c.in_ok-guard-in-For.ensures c.args.in_main c.args.ends)
    (for_unrounded c.in-For.line.0 (stmt (around_by c.args.structs.now c.args.in_main) c.in-For.step) (stmt (around_by c.args.structs.now c.args.in_main) c.in-For.body) c.stmt.new.self.next.at c.in_ok-past-in-For.past c.in_ok-more-in-For.more c.args.ends c.turn.new.self c.guard.new.self c.stmt-in-For.new.self c.in_err-stmt-in-For-2.field-0.0 (c.in_ok-guard-in-For.ensures c.args.in_main c.args.ends).dry c.in_ok-past-in-For.ensures c.in_ok-more-in-For.ensures
    (subst (λ s. Emits (stmt (around_by c.args.structs.now c.args.in_main) s) (record { leave = c.guard.new.self.next.at + c.in_ok-past-in-For.past + c.in_ok-more-in-For.more + 1; again = c.guard.new.self.next.at + c.in_ok-past-in-For.past }) c.guard.new.self c.stmt-in-For.new.self (Err c.in_err-stmt-in-For-2.field-0.0)) c.get-in-For.ensures c.in_err-stmt-in-For-2.ensures))))))

pub stmt-returns-in_err-stmt-in-For-3 : goal.stmt-returns-in_err-stmt-in-For-3
stmt-returns-in_err-stmt-in-For-3 t c =
    let told : c.from_residual-in_err-stmt-in-For-3.result ≡ Err c.in_err-stmt-in-For-3.field-0.0 = search rules in
    subst (λ r. Emits (stmt (around_by c.args.structs.now c.args.in_main) c.args.s.now) c.args.ends c.args.self.now c.stmt-in-For-2.new.self r) (sym told)
    (subst (λ p. Emits p c.args.ends c.args.self.now c.stmt-in-For-2.new.self (Err c.in_err-stmt-in-For-3.field-0.0)) (sym (form.for_is (around_by c.args.structs.now c.args.in_main) c.args.s.now c.in-For.line c.in-For.start c.in-For.condition c.in-For.step c.in-For.body c.in-For.is))
    (next (stmt (around_by c.args.structs.now c.args.in_main) c.in-For.start) (for c.in-For.line.0 (guard (around_by c.args.structs.now c.args.in_main) c.in-For.condition) (stmt (around_by c.args.structs.now c.args.in_main) c.in-For.step) (stmt (around_by c.args.structs.now c.args.in_main) c.in-For.body)) c.args.ends c.args.self.now c.stmt.new.self c.stmt-in-For-2.new.self c.in_ok-stmt-in-For.field-0 (Err c.in_err-stmt-in-For-3.field-0.0)
    (subst (λ s. Emits (stmt (around_by c.args.structs.now c.args.in_main) s) c.args.ends c.args.self.now c.stmt.new.self (Ok c.in_ok-stmt-in-For.field-0)) c.get.ensures c.in_ok-stmt-in-For.ensures)
    (for_turned c.in-For.line.0 (guard (around_by c.args.structs.now c.args.in_main) c.in-For.condition) (stmt (around_by c.args.structs.now c.args.in_main) c.in-For.step) (stmt (around_by c.args.structs.now c.args.in_main) c.in-For.body) c.args.ends c.stmt.new.self c.turn.new.self c.stmt-in-For-2.new.self c.in_ok-turn-in-For.field-0 (Err c.in_err-stmt-in-For-3.field-0.0) (c.in_ok-turn-in-For.ensures c.args.ends)
    (tested (guard (around_by c.args.structs.now c.args.in_main) c.in-For.condition) (for_body c.in-For.line.0 (stmt (around_by c.args.structs.now c.args.in_main) c.in-For.step) (stmt (around_by c.args.structs.now c.args.in_main) c.in-For.body) c.stmt.new.self.next.at) ((stmt (around_by c.args.structs.now c.args.in_main) c.in-For.body).points + (stmt (around_by c.args.structs.now c.args.in_main) c.in-For.step).points) (c.in_ok-past-in-For.past + c.in_ok-more-in-For.more) 1 c.args.ends c.turn.new.self c.guard.new.self c.stmt-in-For-2.new.self c.in_ok-guard-in-For.field-0 (Err c.in_err-stmt-in-For-3.field-0.0) (guard_steady (around_by c.args.structs.now c.args.in_main) c.in-For.condition) (both_counted (stmt (around_by c.args.structs.now c.args.in_main) c.in-For.body).points (stmt (around_by c.args.structs.now c.args.in_main) c.in-For.step).points c.in_ok-past-in-For.past c.in_ok-more-in-For.more c.turn.new.self c.in_ok-past-in-For.ensures c.in_ok-more-in-For.ensures) (c.in_ok-guard-in-For.ensures c.args.in_main c.args.ends)
    (for_round c.in-For.line.0 (stmt (around_by c.args.structs.now c.args.in_main) c.in-For.step) (stmt (around_by c.args.structs.now c.args.in_main) c.in-For.body) c.stmt.new.self.next.at c.in_ok-past-in-For.past c.in_ok-more-in-For.more c.args.ends c.turn.new.self c.guard.new.self c.stmt-in-For.new.self c.stmt-in-For-2.new.self c.in_ok-stmt-in-For-2.field-0 (Err c.in_err-stmt-in-For-3.field-0.0) (c.in_ok-guard-in-For.ensures c.args.in_main c.args.ends).dry c.in_ok-past-in-For.ensures c.in_ok-more-in-For.ensures
    (subst (λ s. Emits (stmt (around_by c.args.structs.now c.args.in_main) s) (record { leave = c.guard.new.self.next.at + c.in_ok-past-in-For.past + c.in_ok-more-in-For.more + 1; again = c.guard.new.self.next.at + c.in_ok-past-in-For.past }) c.guard.new.self c.stmt-in-For.new.self (Ok c.in_ok-stmt-in-For-2.field-0)) c.get-in-For.ensures c.in_ok-stmt-in-For-2.ensures)
    (halt (stmt (around_by c.args.structs.now c.args.in_main) c.in-For.step) (jump c.in-For.line.0 c.stmt.new.self.next.at) c.args.ends c.stmt-in-For.new.self c.stmt-in-For-2.new.self c.in_err-stmt-in-For-3.field-0.0 (subst (λ s. Emits (stmt (around_by c.args.structs.now c.args.in_main) s) c.args.ends c.stmt-in-For.new.self c.stmt-in-For-2.new.self (Err c.in_err-stmt-in-For-3.field-0.0)) c.get-in-For-2.ensures c.in_err-stmt-in-For-3.ensures)))))))

pub stmts-loop-s-preserved : goal.stmts-loop-s-preserved
stmts-loop-s-preserved t c =
    λ new r more. c.loop-s.invariant new r
    (next_item (stmt (around_by c.args.structs.now c.args.in_main)) c.args.items.now c.loop-s.s-index c.s-item.result c.args.ends c.loop-s.self c.stmt.new.self new c.in_ok-stmt.field-0 r (left_from c.args.items.now c.loop-s.s-index c.s-item.result c.loop-s-test.true c.s-item.is) c.in_ok-stmt.ensures more)

pub stmts-returns-in_err-stmt : goal.stmts-returns-in_err-stmt
stmts-returns-in_err-stmt t c =
    let told : c.from_residual.result ≡ Err c.in_err-stmt.field-0.0 = search rules in
    subst (λ r. Emits (in_turn (map (stmt (around_by c.args.structs.now c.args.in_main)) c.args.items.now)) c.args.ends c.args.self.now c.stmt.new.self r) (sym told)
    (c.loop-s.invariant c.stmt.new.self (Err c.in_err-stmt.field-0.0)
    (no_item (stmt (around_by c.args.structs.now c.args.in_main)) c.args.items.now c.loop-s.s-index c.s-item.result c.args.ends c.loop-s.self c.stmt.new.self c.in_err-stmt.field-0.0 (left_from c.args.items.now c.loop-s.s-index c.s-item.result c.loop-s-test.true c.s-item.is) c.in_err-stmt.ensures))

pub stmts-returns : goal.stmts-returns
stmts-returns t c =
    c.loop-s.invariant c.loop-s.self (Ok 0) (no_more (stmt (around_by c.args.structs.now c.args.in_main)) c.args.items.now c.loop-s.s-index c.args.ends c.loop-s.self c.loop-s-test.false)

pub branches-loop-b-preserved : goal.branches-loop-b-preserved
branches-loop-b-preserved t c =
    λ new r more. c.loop-b.invariant new r
    (next_item (branch (around_by c.args.structs.now c.args.in_main)) c.args.branches.now c.loop-b.b-index c.b-item.result c.args.ends c.loop-b.self c.branch-self.new.self new c.in_ok-branch.field-0 r (left_from c.args.branches.now c.loop-b.b-index c.b-item.result c.loop-b-test.true c.b-item.is) c.in_ok-branch.ensures more)

pub branches-returns-in_err-branch : goal.branches-returns-in_err-branch
branches-returns-in_err-branch t c =
    let told : c.from_residual.result ≡ Err c.in_err-branch.field-0.0 = search rules in
    subst (λ r. Emits (in_turn (map (branch (around_by c.args.structs.now c.args.in_main)) c.args.branches.now)) c.args.ends c.args.self.now c.branch-self.new.self r) (sym told)
    (c.loop-b.invariant c.branch-self.new.self (Err c.in_err-branch.field-0.0)
    (no_item (branch (around_by c.args.structs.now c.args.in_main)) c.args.branches.now c.loop-b.b-index c.b-item.result c.args.ends c.loop-b.self c.branch-self.new.self c.in_err-branch.field-0.0 (left_from c.args.branches.now c.loop-b.b-index c.b-item.result c.loop-b-test.true c.b-item.is) c.in_err-branch.ensures))

pub branches-returns : goal.branches-returns
branches-returns t c =
    c.loop-b.invariant c.loop-b.self (Ok 0) (no_more (branch (around_by c.args.structs.now c.args.in_main)) c.args.branches.now c.loop-b.b-index c.args.ends c.loop-b.self c.loop-b-test.false)

abbrev no_ends : Ends
no_ends = record { leave = 0; again = 0 }

pub points-overflow_sub-result : goal.points-overflow_sub-result
points-overflow_sub-result t c =
    let e = (subst (λ s. Emits (stmt (around_by c.args.structs.now c.args.in_main) s) no_ends c.dry_run-run.result c.stmt.new.self (Ok c.in_ok-stmt.field-0)) c.get.ensures c.in_ok-stmt.ensures).count in
    let n = ap (λ x. x.at) c.dry_run-run.ensures.next in
    omega arith

pub points-returns : goal.points-returns
points-returns t c =
    let e = (subst (λ s. Emits (stmt (around_by c.args.structs.now c.args.in_main) s) no_ends c.dry_run-run.result c.stmt.new.self (Ok c.in_ok-stmt.field-0)) c.get.ensures c.in_ok-stmt.ensures).count in
    let n = ap (λ x. x.at) c.dry_run-run.ensures.next in
    let low = c.stmt.new.self.at in
    let few = c.stmt.new.self.few in
    record { few = omega arith; exact = λ live. omega arith }

pub points-returns-in_err-stmt : goal.points-returns-in_err-stmt
points-returns-in_err-stmt t c =
    let told : c.from_residual.result ≡ Err c.in_err-stmt.field-0.0 = search rules in
    subst (λ r. Counts (stmt (around_by c.args.structs.now c.args.in_main) c.args.s.now) c.args.self.now r) (sym told)
    (dry_stopped (stmt (around_by c.args.structs.now c.args.in_main) c.args.s.now) no_ends c.dry_run-run.result c.stmt.new.self c.args.self.now c.in_err-stmt.field-0.0 c.dry_run-run.ensures.next c.dry_run-run.ensures.room (subst (λ s. Emits (stmt (around_by c.args.structs.now c.args.in_main) s) no_ends c.dry_run-run.result c.stmt.new.self (Err c.in_err-stmt.field-0.0)) c.get.ensures c.in_err-stmt.ensures))

pub branch_points-overflow_sub-result : goal.branch_points-overflow_sub-result
branch_points-overflow_sub-result t c =
    let e = (c.in_ok-branch.ensures).count in
    let n = ap (λ x. x.at) c.dry_run-run.ensures.next in
    omega arith

pub branch_points-returns : goal.branch_points-returns
branch_points-returns t c =
    let e = (c.in_ok-branch.ensures).count in
    let n = ap (λ x. x.at) c.dry_run-run.ensures.next in
    let low = c.branch-run.new.self.at in
    let few = c.branch-run.new.self.few in
    record { few = omega arith; exact = λ live. omega arith }

pub branch_points-returns-in_err-branch : goal.branch_points-returns-in_err-branch
branch_points-returns-in_err-branch t c =
    let told : c.from_residual.result ≡ Err c.in_err-branch.field-0.0 = search rules in
    subst (λ r. Counts (closed (around_by c.args.structs.now c.args.in_main) c.args.body.now c.args.close) c.args.self.now r) (sym told)
    (dry_stopped (closed (around_by c.args.structs.now c.args.in_main) c.args.body.now c.args.close) no_ends c.dry_run-run.result c.branch-run.new.self c.args.self.now c.in_err-branch.field-0.0 c.dry_run-run.ensures.next c.dry_run-run.ensures.room (c.in_err-branch.ensures))

pub when-returns : goal.when-returns
when-returns t c =
    tested (condition (around_by c.args.structs.now c.args.in_main) c.args.condition.now) (stmt (around_by c.args.structs.now c.args.in_main) c.args.first.now) (stmt (around_by c.args.structs.now c.args.in_main) c.args.first.now).points c.in_ok-past.past c.args.more c.args.ends c.args.self.now c.condition.new.self c.stmt.new.self c.in_ok-condition.field-0 c.stmt.result (condition_steady (around_by c.args.structs.now c.args.in_main) c.args.condition.now) c.in_ok-past.ensures.exact (c.in_ok-condition.ensures c.args.ends)
    (subst (λ s. Emits (stmt (around_by c.args.structs.now c.args.in_main) s) c.args.ends c.condition.new.self c.stmt.new.self (c.stmt.result)) c.get.ensures c.stmt.ensures)

pub when-returns-in_err-past : goal.when-returns-in_err-past
when-returns-in_err-past t c =
    let told : c.from_residual.result ≡ Err c.in_err-past.field-0.0 = search rules in
    subst (λ r. Emits (guarded (around_by c.args.structs.now c.args.in_main) c.args.condition.now c.args.first.now c.args.more) c.args.ends c.args.self.now c.args.self.now r) (sym told)
    (too_long (stmt (around_by c.args.structs.now c.args.in_main) c.args.first.now) (guarded (around_by c.args.structs.now c.args.in_main) c.args.condition.now c.args.first.now c.args.more) c.args.ends c.args.self.now c.args.self.now c.in_err-past.field-0.0 (let h : (stmt (around_by c.args.structs.now c.args.in_main) c.args.first.now).points ≤ ((condition (around_by c.args.structs.now c.args.in_main) c.args.condition.now) ((stmt (around_by c.args.structs.now c.args.in_main) c.args.first.now).points + c.args.more)).points + (stmt (around_by c.args.structs.now c.args.in_main) c.args.first.now).points = omega arith in h) c.in_err-past.ensures)

pub when-returns-in_err-condition : goal.when-returns-in_err-condition
when-returns-in_err-condition t c =
    let told : c.from_residual-in_err-condition.result ≡ Err c.in_err-condition.field-0.0 = search rules in
    subst (λ r. Emits (guarded (around_by c.args.structs.now c.args.in_main) c.args.condition.now c.args.first.now c.args.more) c.args.ends c.args.self.now c.condition.new.self r) (sym told)
    (untested (condition (around_by c.args.structs.now c.args.in_main) c.args.condition.now) (stmt (around_by c.args.structs.now c.args.in_main) c.args.first.now) (stmt (around_by c.args.structs.now c.args.in_main) c.args.first.now).points c.in_ok-past.past c.args.more c.args.ends c.args.self.now c.condition.new.self c.in_err-condition.field-0.0 (condition_steady (around_by c.args.structs.now c.args.in_main) c.args.condition.now) (c.in_err-condition.ensures c.args.ends))

pub otherwise-returns : goal.otherwise-returns
otherwise-returns t c =
    next (skip c.args.line (stmt (around_by c.args.structs.now c.args.in_main) c.args.second.now).points) (stmt (around_by c.args.structs.now c.args.in_main) c.args.second.now) c.args.ends c.args.self.now c.skip.new.self c.stmt.new.self c.in_ok-skip.field-0 c.stmt.result
    (exactly (λ k. skip c.args.line k) (stmt (around_by c.args.structs.now c.args.in_main) c.args.second.now).points c.in_ok-past.past c.args.ends c.args.self.now c.skip.new.self c.in_ok-skip.field-0 (λ x. refl) c.in_ok-past.ensures.exact (c.in_ok-skip.ensures c.args.ends))
    (subst (λ s. Emits (stmt (around_by c.args.structs.now c.args.in_main) s) c.args.ends c.skip.new.self c.stmt.new.self (c.stmt.result)) c.get.ensures c.stmt.ensures)

pub otherwise-returns-in_err-past : goal.otherwise-returns-in_err-past
otherwise-returns-in_err-past t c =
    let told : c.from_residual.result ≡ Err c.in_err-past.field-0.0 = search rules in
    subst (λ r. Emits (skipped (around_by c.args.structs.now c.args.in_main) c.args.line c.args.second.now) c.args.ends c.args.self.now c.args.self.now r) (sym told)
    (too_long (stmt (around_by c.args.structs.now c.args.in_main) c.args.second.now) (skipped (around_by c.args.structs.now c.args.in_main) c.args.line c.args.second.now) c.args.ends c.args.self.now c.args.self.now c.in_err-past.field-0.0 (let h : (stmt (around_by c.args.structs.now c.args.in_main) c.args.second.now).points ≤ 1 + (stmt (around_by c.args.structs.now c.args.in_main) c.args.second.now).points = omega arith in h) c.in_err-past.ensures)

pub otherwise-returns-in_err-skip : goal.otherwise-returns-in_err-skip
otherwise-returns-in_err-skip t c =
    let told : c.from_residual-in_err-skip.result ≡ Err c.in_err-skip.field-0.0 = search rules in
    subst (λ r. Emits (skipped (around_by c.args.structs.now c.args.in_main) c.args.line c.args.second.now) c.args.ends c.args.self.now c.skip.new.self r) (sym told)
    (halt (skip c.args.line (stmt (around_by c.args.structs.now c.args.in_main) c.args.second.now).points) (stmt (around_by c.args.structs.now c.args.in_main) c.args.second.now) c.args.ends c.args.self.now c.skip.new.self c.in_err-skip.field-0.0
    (counted_stopped (λ k. skip c.args.line k) (stmt (around_by c.args.structs.now c.args.in_main) c.args.second.now).points c.in_ok-past.past c.args.ends c.args.self.now c.skip.new.self c.in_err-skip.field-0.0 (λ x. refl) (c.in_err-skip.ensures c.args.ends)))

pub while_loop-returns : goal.while_loop-returns
while_loop-returns t c =
    λ ends. while_turned c.args.line (condition (around_by c.args.structs.now c.args.in_main) c.args.condition.now) (stmt (around_by c.args.structs.now c.args.in_main) c.args.body.now) ends c.args.self.now c.turn.new.self c.jump.new.self c.in_ok-turn.field-0 (c.jump.result) (c.in_ok-turn.ensures ends)
    (tested (condition (around_by c.args.structs.now c.args.in_main) c.args.condition.now) (while_body c.args.line (stmt (around_by c.args.structs.now c.args.in_main) c.args.body.now) c.args.self.now.next.at) (stmt (around_by c.args.structs.now c.args.in_main) c.args.body.now).points c.in_ok-past.past 1 ends c.turn.new.self c.condition.new.self c.jump.new.self c.in_ok-condition.field-0 (c.jump.result) (condition_steady (around_by c.args.structs.now c.args.in_main) c.args.condition.now) c.in_ok-past.ensures.exact (c.in_ok-condition.ensures ends)
    (while_round c.args.line (stmt (around_by c.args.structs.now c.args.in_main) c.args.body.now) c.args.self.now.next.at c.in_ok-past.past ends c.turn.new.self c.condition.new.self c.stmt.new.self c.jump.new.self c.in_ok-stmt.field-0 c.jump.result (c.in_ok-condition.ensures no_ends).dry c.in_ok-past.ensures
    (subst (λ s. Emits (stmt (around_by c.args.structs.now c.args.in_main) s) (record { leave = c.condition.new.self.next.at + c.in_ok-past.past + 1; again = c.args.self.now.next.at }) c.condition.new.self c.stmt.new.self (Ok c.in_ok-stmt.field-0)) c.get.ensures c.in_ok-stmt.ensures) (c.jump.ensures ends)))

pub while_loop-returns-in_err-turn : goal.while_loop-returns-in_err-turn
while_loop-returns-in_err-turn t c =
    λ ends. let told : c.from_residual.result ≡ Err c.in_err-turn.field-0.0 = search rules in
    subst (λ r. Emits (while c.args.line (condition (around_by c.args.structs.now c.args.in_main) c.args.condition.now) (stmt (around_by c.args.structs.now c.args.in_main) c.args.body.now)) ends c.args.self.now c.turn.new.self r) (sym told)
    (while_unturned c.args.line (condition (around_by c.args.structs.now c.args.in_main) c.args.condition.now) (stmt (around_by c.args.structs.now c.args.in_main) c.args.body.now) ends c.args.self.now c.turn.new.self c.in_err-turn.field-0.0 (c.in_err-turn.ensures ends))

pub while_loop-returns-in_err-past : goal.while_loop-returns-in_err-past
while_loop-returns-in_err-past t c =
    λ ends. let told : c.from_residual-in_err-past.result ≡ Err c.in_err-past.field-0.0 = search rules in
    subst (λ r. Emits (while c.args.line (condition (around_by c.args.structs.now c.args.in_main) c.args.condition.now) (stmt (around_by c.args.structs.now c.args.in_main) c.args.body.now)) ends c.args.self.now c.turn.new.self r) (sym told)
    (while_turned c.args.line (condition (around_by c.args.structs.now c.args.in_main) c.args.condition.now) (stmt (around_by c.args.structs.now c.args.in_main) c.args.body.now) ends c.args.self.now c.turn.new.self c.turn.new.self c.in_ok-turn.field-0 (Err c.in_err-past.field-0.0) (c.in_ok-turn.ensures ends)
    (while_uncounted c.args.line (condition (around_by c.args.structs.now c.args.in_main) c.args.condition.now) (stmt (around_by c.args.structs.now c.args.in_main) c.args.body.now) c.args.self.now.next.at ends c.turn.new.self c.in_err-past.field-0.0 c.in_err-past.ensures))

pub while_loop-returns-in_err-condition : goal.while_loop-returns-in_err-condition
while_loop-returns-in_err-condition t c =
    λ ends. let told : c.from_residual-in_err-condition.result ≡ Err c.in_err-condition.field-0.0 = search rules in
    subst (λ r. Emits (while c.args.line (condition (around_by c.args.structs.now c.args.in_main) c.args.condition.now) (stmt (around_by c.args.structs.now c.args.in_main) c.args.body.now)) ends c.args.self.now c.condition.new.self r) (sym told)
    (while_turned c.args.line (condition (around_by c.args.structs.now c.args.in_main) c.args.condition.now) (stmt (around_by c.args.structs.now c.args.in_main) c.args.body.now) ends c.args.self.now c.turn.new.self c.condition.new.self c.in_ok-turn.field-0 (Err c.in_err-condition.field-0.0) (c.in_ok-turn.ensures ends)
    (untested (condition (around_by c.args.structs.now c.args.in_main) c.args.condition.now) (while_body c.args.line (stmt (around_by c.args.structs.now c.args.in_main) c.args.body.now) c.args.self.now.next.at) (stmt (around_by c.args.structs.now c.args.in_main) c.args.body.now).points c.in_ok-past.past 1 ends c.turn.new.self c.condition.new.self c.in_err-condition.field-0.0 (condition_steady (around_by c.args.structs.now c.args.in_main) c.args.condition.now) (c.in_err-condition.ensures ends)))

pub while_loop-returns-in_err-stmt : goal.while_loop-returns-in_err-stmt
while_loop-returns-in_err-stmt t c =
    λ ends. let told : c.from_residual-in_err-stmt.result ≡ Err c.in_err-stmt.field-0.0 = search rules in
    subst (λ r. Emits (while c.args.line (condition (around_by c.args.structs.now c.args.in_main) c.args.condition.now) (stmt (around_by c.args.structs.now c.args.in_main) c.args.body.now)) ends c.args.self.now c.stmt.new.self r) (sym told)
    (while_turned c.args.line (condition (around_by c.args.structs.now c.args.in_main) c.args.condition.now) (stmt (around_by c.args.structs.now c.args.in_main) c.args.body.now) ends c.args.self.now c.turn.new.self c.stmt.new.self c.in_ok-turn.field-0 (Err c.in_err-stmt.field-0.0) (c.in_ok-turn.ensures ends)
    (tested (condition (around_by c.args.structs.now c.args.in_main) c.args.condition.now) (while_body c.args.line (stmt (around_by c.args.structs.now c.args.in_main) c.args.body.now) c.args.self.now.next.at) (stmt (around_by c.args.structs.now c.args.in_main) c.args.body.now).points c.in_ok-past.past 1 ends c.turn.new.self c.condition.new.self c.stmt.new.self c.in_ok-condition.field-0 (Err c.in_err-stmt.field-0.0) (condition_steady (around_by c.args.structs.now c.args.in_main) c.args.condition.now) c.in_ok-past.ensures.exact (c.in_ok-condition.ensures ends)
    (while_unrounded c.args.line (stmt (around_by c.args.structs.now c.args.in_main) c.args.body.now) c.args.self.now.next.at c.in_ok-past.past ends c.turn.new.self c.condition.new.self c.stmt.new.self c.in_err-stmt.field-0.0 (c.in_ok-condition.ensures no_ends).dry c.in_ok-past.ensures (subst (λ s. Emits (stmt (around_by c.args.structs.now c.args.in_main) s) (record { leave = c.condition.new.self.next.at + c.in_ok-past.past + 1; again = c.args.self.now.next.at }) c.condition.new.self c.stmt.new.self (Err c.in_err-stmt.field-0.0)) c.get.ensures c.in_err-stmt.ensures))))

pub par-returns : goal.par-returns
par-returns t c =
    next (fork c.args.line (map (branch (around_by c.args.structs.now c.args.in_main)) c.args.branches.now)) (in_turn (map (branch (around_by c.args.structs.now c.args.in_main)) c.args.branches.now)) c.args.ends c.args.self.now c.quiet.new.self c.branches.new.self c.in_ok-quiet.field-0 c.branches.result
    (forked c.args.line (map (branch (around_by c.args.structs.now c.args.in_main)) c.args.branches.now) c.in_ok-fork.fork c.args.ends c.args.self.now c.quiet.new.self (Ok c.in_ok-quiet.field-0) c.in_ok-fork.ensures (c.in_ok-quiet.ensures c.args.ends)) c.branches.ensures

pub par-returns-in_err-fork : goal.par-returns-in_err-fork
par-returns-in_err-fork t c =
    let told : c.from_residual.result ≡ Err c.in_err-fork.field-0.0 = search rules in
    subst (λ r. Emits (branches c.args.line (map (branch (around_by c.args.structs.now c.args.in_main)) c.args.branches.now)) c.args.ends c.args.self.now c.args.self.now r) (sym told)
    (unforked c.args.line (map (branch (around_by c.args.structs.now c.args.in_main)) c.args.branches.now) c.args.ends c.args.self.now c.in_err-fork.field-0.0 c.in_err-fork.ensures)

pub par-returns-in_err-quiet : goal.par-returns-in_err-quiet
par-returns-in_err-quiet t c =
    let told : c.from_residual-in_err-quiet.result ≡ Err c.in_err-quiet.field-0.0 = search rules in
    subst (λ r. Emits (branches c.args.line (map (branch (around_by c.args.structs.now c.args.in_main)) c.args.branches.now)) c.args.ends c.args.self.now c.quiet.new.self r) (sym told)
    (halt (fork c.args.line (map (branch (around_by c.args.structs.now c.args.in_main)) c.args.branches.now)) (in_turn (map (branch (around_by c.args.structs.now c.args.in_main)) c.args.branches.now)) c.args.ends c.args.self.now c.quiet.new.self c.in_err-quiet.field-0.0
    (forked c.args.line (map (branch (around_by c.args.structs.now c.args.in_main)) c.args.branches.now) c.in_ok-fork.fork c.args.ends c.args.self.now c.quiet.new.self (Err c.in_err-quiet.field-0.0) c.in_ok-fork.ensures (c.in_err-quiet.ensures c.args.ends)))

pub fork-loop-b-preserved : goal.fork-loop-b-preserved
fork-loop-b-preserved t c =
    fork_more (branch (around_by c.args.structs.now c.args.in_main)) (c.args.self.now.next.at + 1) c.args.branches.now c.loop-b.b-index c.b-item.result c.args.self.now.room c.loop-b.join c.in_ok-points.points c.loop-b.entries c.push.new.self (left_from c.args.branches.now c.loop-b.b-index c.b-item.result c.loop-b-test.true c.b-item.is) c.in_ok-push.ensures.ok (c.in_ok-points.ensures.exact c.if-self.false) (omega arith) c.loop-b.invariant

pub fork-returns-in_err-points : goal.fork-returns-in_err-points
fork-returns-in_err-points t c =
    let told : c.from_residual-in_err-points.result ≡ Err c.in_err-points.field-0.0 = search rules in
    subst (λ r. Forks (map (branch (around_by c.args.structs.now c.args.in_main)) c.args.branches.now) c.args.self.now r) (sym told)
    (branch_full (branch (around_by c.args.structs.now c.args.in_main)) c.args.branches.now c.loop-b.b-index c.b-item.result c.args.self.now c.loop-b.join c.loop-b.entries c.in_err-points.field-0.0 (left_from c.args.branches.now c.loop-b.b-index c.b-item.result c.loop-b-test.true c.b-item.is) c.in_err-points.ensures c.loop-b.invariant)

pub fork-returns-then-join-self : goal.fork-returns-then-join-self
fork-returns-then-join-self t c =
    let n = c.in_ok-points.ensures.exact c.if-self.false in
    fork_full (branch (around_by c.args.structs.now c.args.in_main)) (c.args.self.now.next.at + 1) c.args.branches.now c.loop-b.b-index c.b-item.result c.args.self.now.room c.loop-b.join c.loop-b.entries (left_from c.args.branches.now c.loop-b.b-index c.b-item.result c.loop-b-test.true c.b-item.is) (omega arith) c.loop-b.invariant

pub fork-returns : goal.fork-returns
fork-returns t c =
    λ live. fork_done (branch (around_by c.args.structs.now c.args.in_main)) (c.args.self.now.next.at + 1) c.args.branches.now c.loop-b.b-index c.args.self.now.room c.loop-b.join c.loop-b.entries c.loop-b-test.false c.loop-b.invariant

pub branch-returns : goal.branch-returns
branch-returns t c =
    next (in_turn (map (stmt (around_by c.args.structs.now c.args.in_main)) c.args.body.now)) (stop c.args.close) c.args.ends c.args.self.now c.stmts.new.self c.quiet.new.self c.in_ok-stmts.field-0 c.quiet.result (subst (λ ss. Emits (in_turn (map (stmt (around_by c.args.structs.now c.args.in_main)) ss)) c.args.ends c.args.self.now c.stmts.new.self (Ok c.in_ok-stmts.field-0)) c.as_slice.ensures c.in_ok-stmts.ensures) (c.quiet.ensures c.args.ends)

pub branch-returns-in_err-stmts : goal.branch-returns-in_err-stmts
branch-returns-in_err-stmts t c =
    let told : c.from_residual.result ≡ Err c.in_err-stmts.field-0.0 = search rules in
    subst (λ r. Emits (closed (around_by c.args.structs.now c.args.in_main) c.args.body.now c.args.close) c.args.ends c.args.self.now c.stmts.new.self r) (sym told)
    (halt (in_turn (map (stmt (around_by c.args.structs.now c.args.in_main)) c.args.body.now)) (stop c.args.close) c.args.ends c.args.self.now c.stmts.new.self c.in_err-stmts.field-0.0 (subst (λ ss. Emits (in_turn (map (stmt (around_by c.args.structs.now c.args.in_main)) ss)) c.args.ends c.args.self.now c.stmts.new.self (Err c.in_err-stmts.field-0.0)) c.as_slice.ensures c.in_err-stmts.ensures))

pub stmt-stmts-requires : goal.stmt-stmts-requires
stmt-stmts-requires t c = (omega (arith, block_weight c.args.s.now c.in-Block.items c.in-Block.is, ap total c.as_slice.ensures), subst (WellStmts c.args.structs.now) (sym c.as_slice.ensures) (block_well c.args.structs.now c.args.s.now c.requires c.in-Block.items c.in-Block.is))

pub stmt-when-requires : goal.stmt-when-requires
stmt-when-requires t c =
    let both = if_well c.args.structs.now c.args.s.now c.requires c.in-If.line c.in-If.condition c.in-If.first c.in-If.second c.in-If.is in
    (omega (arith, if_weight c.args.s.now c.in-If.line c.in-If.condition c.in-If.first c.in-If.second c.in-If.is), (omega arith, (both.0, both.1)))

pub stmt-when-requires-in-Some : goal.stmt-when-requires-in-Some
stmt-when-requires-in-Some t c =
    let both = if_well c.args.structs.now c.args.s.now c.requires c.in-If.line c.in-If.condition c.in-If.first c.in-If.second c.in-If.is in
    (omega (arith, if_weight c.args.s.now c.in-If.line c.in-If.condition c.in-If.first c.in-If.second c.in-If.is), (omega arith, (both.0, both.1)))

pub stmt-otherwise-requires : goal.stmt-otherwise-requires
stmt-otherwise-requires t c = (omega (arith, else_weight c.args.s.now c.in-If.line c.in-If.condition c.in-If.first c.in-If.second c.in-Some.second c.in-If.is c.in-Some.is), else_well c.args.structs.now c.args.s.now c.requires c.in-If.line c.in-If.condition c.in-If.first c.in-If.second c.in-Some.second c.in-If.is c.in-Some.is)

pub stmt-while_loop-requires : goal.stmt-while_loop-requires
stmt-while_loop-requires t c =
    let both = while_well c.args.structs.now c.args.s.now c.requires c.in-While.line c.in-While.condition c.in-While.body c.in-While.is in
    (omega (arith, while_weight c.args.s.now c.in-While.line c.in-While.condition c.in-While.body c.in-While.is), (both.0, both.1))

pub stmt-stmt-requires : goal.stmt-stmt-requires
stmt-stmt-requires t c = (omega (arith, for_weight c.args.s.now c.in-For.line c.in-For.start c.in-For.condition c.in-For.step c.in-For.body c.in-For.is, ap weight c.get.ensures), subst (WellStmt c.args.structs.now) (sym c.get.ensures) (for_well c.args.structs.now c.args.s.now c.requires c.in-For.line c.in-For.start c.in-For.condition c.in-For.step c.in-For.body c.in-For.is).0)

pub stmt-points-requires : goal.stmt-points-requires
stmt-points-requires t c = (omega (arith, for_weight c.args.s.now c.in-For.line c.in-For.start c.in-For.condition c.in-For.step c.in-For.body c.in-For.is), (for_well c.args.structs.now c.args.s.now c.requires c.in-For.line c.in-For.start c.in-For.condition c.in-For.step c.in-For.body c.in-For.is).3)

pub stmt-points-requires-in-For : goal.stmt-points-requires-in-For
stmt-points-requires-in-For t c = (omega (arith, for_weight c.args.s.now c.in-For.line c.in-For.start c.in-For.condition c.in-For.step c.in-For.body c.in-For.is), (for_well c.args.structs.now c.args.s.now c.requires c.in-For.line c.in-For.start c.in-For.condition c.in-For.step c.in-For.body c.in-For.is).2)

pub stmt-stmt-requires-in-For : goal.stmt-stmt-requires-in-For
stmt-stmt-requires-in-For t c = (omega (arith, for_weight c.args.s.now c.in-For.line c.in-For.start c.in-For.condition c.in-For.step c.in-For.body c.in-For.is, ap weight c.get-in-For.ensures), subst (WellStmt c.args.structs.now) (sym c.get-in-For.ensures) (for_well c.args.structs.now c.args.s.now c.requires c.in-For.line c.in-For.start c.in-For.condition c.in-For.step c.in-For.body c.in-For.is).3)

pub stmt-stmt-requires-in-For-2 : goal.stmt-stmt-requires-in-For-2
stmt-stmt-requires-in-For-2 t c = (omega (arith, for_weight c.args.s.now c.in-For.line c.in-For.start c.in-For.condition c.in-For.step c.in-For.body c.in-For.is, ap weight c.get-in-For-2.ensures), subst (WellStmt c.args.structs.now) (sym c.get-in-For-2.ensures) (for_well c.args.structs.now c.args.s.now c.requires c.in-For.line c.in-For.start c.in-For.condition c.in-For.step c.in-For.body c.in-For.is).2)

pub stmt-par-requires : goal.stmt-par-requires
stmt-par-requires t c = (omega (arith, par_weight c.args.s.now c.in-Par.line c.in-Par.branches c.in-Par.is, ap bodies c.as_slice-in-Par.ensures), subst (WellBranches c.args.structs.now) (sym c.as_slice-in-Par.ensures) (par_well c.args.structs.now c.args.s.now c.requires c.in-Par.line c.in-Par.branches c.in-Par.is))

pub stmts-stmt-requires : goal.stmts-stmt-requires
stmts-stmt-requires t c = (omega (arith, total_at c.args.items.now c.loop-s.s-index c.s-item.result c.loop-s-test.true c.s-item.is), stmt_at c.args.structs.now c.args.items.now c.loop-s.s-index c.s-item.result c.loop-s-test.true c.s-item.is c.requires)

pub branches-branch-self-requires : goal.branches-branch-self-requires
branches-branch-self-requires t c = (omega (arith, bodies_at c.args.branches.now c.loop-b.b-index c.b-item.result c.loop-b-test.true c.b-item.is), branch_at c.args.structs.now c.args.branches.now c.loop-b.b-index c.b-item.result c.loop-b-test.true c.b-item.is c.requires)

pub fork-branch_points-requires : goal.fork-branch_points-requires
fork-branch_points-requires t c = (omega (arith, bodies_at c.args.branches.now c.loop-b.b-index c.b-item.result c.loop-b-test.true c.b-item.is), branch_at c.args.structs.now c.args.branches.now c.loop-b.b-index c.b-item.result c.loop-b-test.true c.b-item.is c.requires)
