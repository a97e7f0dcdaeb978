use Rattle.std.proofs.Common.{◌≡◌, arith, ap, ◌∙◌, length, sum, map, take}
use Rattle.std.proofs.lemmas.List.{length-take-le}
use Rattle.tac_ir.specs.declared.code.Fun.{Fun}
use Rattle.flow_rules.proofs.PointNumbers.{fun_of, number_below, count_step}
use Rattle.flow_rules.proofs.points.point_number.Goals as goal

pub overflow_add-before : goal.overflow_add-before
overflow_add-before c =
    let step = count_step c.args.c.now c.as_slice.result.now c.as_slice.ensures c.args.p.fun c.loop-fun.fun-index c.fun-item.result (let e = (fun_of c.args.c.now c.args.p c.requires.p).1.exists in omega (arith, e)) c.loop-fun-test.true c.fun-item.is in
    let fits = step.fits in
    omega (arith, fits, c.loop-fun.invariant, c.len-before.ensures, c.requires.fits)

pub loop-fun-preserved : goal.loop-fun-preserved
loop-fun-preserved c =
    let step = count_step c.args.c.now c.as_slice.result.now c.as_slice.ensures c.args.p.fun c.loop-fun.fun-index c.fun-item.result (let e = (fun_of c.args.c.now c.args.p c.requires.p).1.exists in omega (arith, e)) c.loop-fun-test.true c.fun-item.is in
    let next = step.next in
    omega (arith, next, c.loop-fun.invariant, c.len-before.ensures)

pub overflow_add-result : goal.overflow_add-result
overflow_add-result c =
    let exists = (fun_of c.args.c.now c.args.p c.requires.p).1.exists in
    let index : c.loop-fun.fun-index ≡ c.args.p.fun = omega (arith, c.loop-fun-test.false, c.loop-fun.auto.fun-index-end, length-take-le c.args.p.fun c.as_slice.result.now (omega (arith, exists, ap length c.as_slice.ensures))) in
    let now = c.loop-fun.invariant ∙ ap (λ i. sum (map (λ (x : Fun). length x.code) (take i c.args.c.now.funs))) index in
    omega (arith, now, number_below c.args.c.now c.args.p c.requires.p, c.requires.fits)
