use Rattle.std.proofs.Common.{arith}
use Rattle.std.proofs.lemmas.Result.{err_from_is_err_and}
use Rattle.flow_rules.proofs.Added.{fun_step, fun_stop}
use Rattle.flow_rules.proofs.fact_list.push_funs.Goals as goal

pub returns-in_err-push_fun : goal.returns-in_err-push_fun
returns-in_err-push_fun c =
    let p = err_from_is_err_and c.from_residual.result c.from_residual.ensures.1 in
    rw (p.1, p.2) (fun_stop c.args.c.now c.args.p.now.rows c.loop-fun.fun c.args.pairs.now c.loop-fun.pairs c.push_fun.new.pairs (omega (arith, c.loop-fun-test.true, c.len-fun-end.ensures)) c.loop-fun.invariant
    c.in_err-push_fun.field-0.0 c.in_err-push_fun.ensures)

pub loop-fun-preserved : goal.loop-fun-preserved
loop-fun-preserved c =
    fun_step c.args.c.now c.args.p.now.rows c.loop-fun.fun c.args.pairs.now c.loop-fun.pairs c.push_fun.new.pairs (omega (arith, c.loop-fun-test.true, c.len-fun-end.ensures)) c.loop-fun.invariant c.in_ok-push_fun.ensures
