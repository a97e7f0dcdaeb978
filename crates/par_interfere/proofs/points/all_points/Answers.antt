use Rattle.std.proofs.Common.{◌≡◌, ◌<◌, ◌≤◌, length, get_or, sym, ap, ◌∙◌, arith}
use Rattle.std.proofs.lemmas.Option.{slice_get-get_or}
use Rattle.tac_ir.specs.Counts.{points_in_code}
use Rattle.flow_rules.proofs.PointNumbers.{size}
use Rattle.flow_rules.proofs.Parallels.{lines_are}
use Rattle.flow_rules.proofs.ShapeNodes.{nodes_with}
use Rattle.par_interfere.proofs.points.all_points.Goals as goal

low : (c : goal.After-len) → c.loop-fun.fun < length c.args.c.now.funs
low c = omega (arith, c.loop-fun-test.true, ap length c.as_slice-funs.ensures)

size_is : (c : goal.After-len) → c.len.result ≡ size (get_or c.args.c.now.funs c.loop-fun.fun c.index-funs-fun.result)
size_is c = c.len.ensures ∙ ap (λ xs. size (get_or xs c.loop-fun.fun c.index-funs-fun.result)) c.as_slice-funs.ensures

pub overflow_cast-len : goal.overflow_cast-len
overflow_cast-len c =
    let limit : points_in_code c.args.c.now ≤ 16384 = c.requires.limits.points in
    omega (arith, limit, size_is c, nodes_with size c.args.c.now.funs c.loop-fun.fun c.index-funs-fun.result (low c))

pub add_points-requires-clause-count : goal.add_points-requires-clause-count
add_points-requires-clause-count c =
    size_is c
    ∙ sym (ap length (lines_are c.args.c.now c.loop-fun.fun (get_or c.args.c.now.funs c.loop-fun.fun c.index-funs-fun.result)
    (slice_get-get_or c.args.c.now.funs c.loop-fun.fun c.index-funs-fun.result (low c))))
