use Rattle.std.proofs.Common.{◌∙◌, arith, ap, sym, subst, length}
use Rattle.tac_ir.specs.declared.code.Fun.{Fun}
use Rattle.flow_rules.specs.tools.Made.{IsMadeIn}
use Rattle.flow_rules.proofs.MadePoints.{fun_is, made_found, not_in, none_up_to, none_at_all}
use Rattle.flow_rules.proofs.reads.point_of.Goals as goal

pub overflow_cast-result-in-Some : goal.overflow_cast-result-in-Some
overflow_cast-result-in-Some c =
    let code = c.as_slice.ensures ∙ ap (λ (x : Fun). x.code) (sym c.index-funs-fun.is) in
    let function = fun_is c.args.c.now c.as_slice-funs.result.now c.loop-fun.fun c.index-funs-fun.result c.as_slice-funs.ensures (omega (arith, c.loop-fun-test.true)) c.index-funs-fun.is in
    let found = made_found c.args.c.now c.requires c.args.made c.loop-fun.fun c.in-Some.at c.index-funs-fun.result c.as_slice.result.now function code (subst (IsMadeIn c.as_slice.result.now c.args.made) c.in-Some.is c.index_of.ensures) in
    let small = found.small in
    omega (arith, small)

pub returns-in-Some : goal.returns-in-Some
returns-in-Some c =
    let code = c.as_slice.ensures ∙ ap (λ (x : Fun). x.code) (sym c.index-funs-fun.is) in
    let function = fun_is c.args.c.now c.as_slice-funs.result.now c.loop-fun.fun c.index-funs-fun.result c.as_slice-funs.ensures (omega (arith, c.loop-fun-test.true)) c.index-funs-fun.is in
    let found = made_found c.args.c.now c.requires c.args.made c.loop-fun.fun c.in-Some.at c.index-funs-fun.result c.as_slice.result.now function code (subst (IsMadeIn c.as_slice.result.now c.args.made) c.in-Some.is c.index_of.ensures) in
    (found.low, found.makes)

pub loop-fun-preserved : goal.loop-fun-preserved
loop-fun-preserved c =
    let code = c.as_slice.ensures ∙ ap (λ (x : Fun). x.code) (sym c.index-funs-fun.is) in
    let function = fun_is c.args.c.now c.as_slice-funs.result.now c.loop-fun.fun c.index-funs-fun.result c.as_slice-funs.ensures (omega (arith, c.loop-fun-test.true)) c.index-funs-fun.is in
    λ f at low. none_up_to c.args.c.now c.args.made c.loop-fun.fun c.loop-fun.invariant (λ i. not_in c.args.c.now c.args.made c.loop-fun.fun i c.index-funs-fun.result c.as_slice.result.now function code c.in_default.ensures) f at low

pub returns : goal.returns
returns c = λ p makes. none_at_all c.args.c.now c.args.made c.loop-fun.fun c.loop-fun.invariant (omega (arith, c.loop-fun-test.false, ap length c.as_slice-funs.ensures)) p makes
