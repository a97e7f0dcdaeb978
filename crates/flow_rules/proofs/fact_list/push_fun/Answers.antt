use Rattle.std.proofs.Common.{arith, ap, length}
use Rattle.std.proofs.lemmas.Result.{err_from_is_err_and}
use Rattle.flow_rules.proofs.Added.{line_step, line_stop}
use Rattle.flow_rules.proofs.InCode.{few_lines}
use Rattle.flow_rules.proofs.fact_list.push_fun.Goals as goal

pub overflow_cast-at-end : goal.overflow_cast-at-end
overflow_cast-at-end c = omega (arith, few_lines c.args.c.now c.requires.form c.args.fun, ap length c.lines_of.ensures)

pub returns-in_err-keep_within : goal.returns-in_err-keep_within
returns-in_err-keep_within c =
    let p = err_from_is_err_and c.from_residual-in_err-keep_within.result c.from_residual-in_err-keep_within.ensures.1 in
    rw (p.1, p.2) (line_stop c.args.c.now c.args.p.now.rows c.args.fun c.loop-at.at c.args.pairs.now c.loop-at.pairs c.push_instr.new.pairs (omega (arith, c.loop-at-test.true, ap length c.lines_of.ensures)) c.loop-at.invariant
    c.in_ok-push_instr.ensures c.in_err-keep_within.field-0.0 c.in_err-keep_within.ensures)

pub loop-at-preserved : goal.loop-at-preserved
loop-at-preserved c =
    line_step c.args.c.now c.args.p.now.rows c.args.fun c.loop-at.at c.args.pairs.now c.loop-at.pairs c.push_instr.new.pairs (omega (arith, c.loop-at-test.true, ap length c.lines_of.ensures)) c.loop-at.invariant
    c.in_ok-push_instr.ensures c.in_ok-keep_within.ensures
