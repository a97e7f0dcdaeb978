use Rattle.std.proofs.Common.{◌+◌, ◌<◌, length, sym, subst, arith}
use Rattle.points_to.specs.tools.RowMaps.{AreStarts}
use Rattle.points_to.proofs.Numbers.{few_temps, next_start, start_within, starts_more}
use Rattle.points_to.proofs.row_map.starts_of.Goals as goal

pub overflow_cast-next : goal.overflow_cast-next
overflow_cast-next c =
    let code = c.args.c.now in
    let f = c.loop-fun.fun in
    let low : f < length code.funs = omega (arith, c.loop-fun-test.true, c.len-fun-end.ensures) in
    let temps = c.temps_of.ensures code c.requires.layout in
    let next = next_start code f low in
    let within = start_within code (f + 1) in
    let few = few_temps code c.requires.form in
    omega (arith, temps, next, within, few)

pub overflow_add-next : goal.overflow_add-next
overflow_add-next c =
    let code = c.args.c.now in
    let f = c.loop-fun.fun in
    let low : f < length code.funs = omega (arith, c.loop-fun-test.true, c.len-fun-end.ensures) in
    let temps = c.temps_of.ensures code c.requires.layout in
    let next = next_start code f low in
    let within = start_within code (f + 1) in
    let few = few_temps code c.requires.form in
    let now = c.loop-fun.invariant.next in
    omega (arith, temps, next, within, few, now)

pub loop-fun-preserved : goal.loop-fun-preserved
loop-fun-preserved c =
    let code = c.args.c.now in
    let f = c.loop-fun.fun in
    let low : f < length code.funs = omega (arith, c.loop-fun-test.true, c.len-fun-end.ensures) in
    let temps = c.temps_of.ensures code c.requires.layout in
    record {
      starts = subst (AreStarts code (f + 1)) (sym c.in_ok-push.ensures.items) (starts_more code f c.loop-fun.next c.loop-fun.starts.items c.loop-fun.invariant.starts c.loop-fun.invariant.next);
      next = (let next = next_start code f low in let now = c.loop-fun.invariant.next in omega (arith, temps, next, now));
    }
