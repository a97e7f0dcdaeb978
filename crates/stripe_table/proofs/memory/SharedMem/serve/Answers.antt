use Rattle.std.proofs.lemmas.Result.{err_from_is_err_and}
use Rattle.stripe_table.proofs.memory.SharedMem.serve.Goals as goal

pub returns-in_err-hold-clause-err : goal.returns-in_err-hold-clause-err
returns-in_err-hold-clause-err c =
    let e = c.in_err-hold.ensures.err in
    let p = err_from_is_err_and c.from_residual.result c.from_residual.ensures.1 in
    rw (p.1, p.2) (e.0, e.1 c.args.op, e.2)
