use Rattle.std.proofs.Common.{◌<◌, suc, All, length, subst, sym, ap, arith}
use Rattle.tac_ir.specs.declared.code.Instr.{Instr}
use Rattle.flow_rules.specs.PointNumber.{point_at}
use Rattle.tac_ir.specs.Counts.{temps_of}
use Rattle.points_to.specs.tools.Here.{IsHere}
use Rattle.points_to.proofs.Named.{params_below}
use Rattle.points_to.proofs.instr_rules.push_rules.Goals as goal

at_call : (c : goal.After-push_args-arg-1) → IsHere c.args.c.now (point_at c.args.fun 0) (Instr.Call c.in-Call.to c.in-Call.callee c.in-Call.def c.in-Call.args)
at_call c = subst (IsHere c.args.c.now (point_at c.args.fun 0)) c.in-Call.is c.requires.here

pub push_args-requires-clause-args : goal.push_args-requires-clause-args
push_args-requires-clause-args c =
    subst (All (λ x. x < temps_of c.args.c.now c.args.fun)) (sym c.as_slice.ensures) (λ k d low. (at_call c).temps (suc k) d (omega (arith, low)))

pub push_args-requires-clause-few : goal.push_args-requires-clause-few
push_args-requires-clause-few c =
    let call = (at_call c).names in
    let below = params_below c.args.c.now c.in-Call.callee in
    omega (arith, ap length c.as_slice.ensures, call.count, below)
