use Rattle.std.proofs.Common.{arith}
use Rattle.std.proofs.lemmas.Result.{err_from_is_err_and}
use Rattle.flow_rules.proofs.Added.{start_step, start_stop, starts_done}
use Rattle.flow_rules.proofs.fact_list.push_starts.Goals as goal

pub returns-in_err-keep_within : goal.returns-in_err-keep_within
returns-in_err-keep_within c =
    let p = err_from_is_err_and c.from_residual-in_err-keep_within.result c.from_residual-in_err-keep_within.ensures.1 in
    rw (p.1, p.2) (start_stop c.args.c.now c.loop-var.var c.args.pairs.now c.loop-var.pairs c.push_global.new.pairs (omega (arith, c.loop-var-test.true, c.len-var-end.ensures)) c.loop-var.invariant
    c.in_ok-push_global.ensures c.in_err-keep_within.field-0.0 c.in_err-keep_within.ensures)

pub loop-var-preserved : goal.loop-var-preserved
loop-var-preserved c =
    start_step c.args.c.now c.loop-var.var c.args.pairs.now c.loop-var.pairs c.push_global.new.pairs c.loop-var.invariant c.in_ok-push_global.ensures c.in_ok-keep_within.ensures

pub returns : goal.returns
returns c =
    starts_done c.args.c.now c.loop-var.var c.args.pairs.now c.loop-var.pairs (omega (arith, c.loop-var-test.false, c.len-var-end.ensures, c.loop-var.auto.var-end)) (omega (arith, c.len-var-end.ensures, c.loop-var.auto.var-end)) c.loop-var.invariant
