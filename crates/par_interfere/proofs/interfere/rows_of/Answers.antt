use Rattle.std.proofs.Common.{length, ap, subst, arith}
use Rattle.par_interfere.specs.tools.Rows.{AreBesidePoints, AreOthers}
use Rattle.par_interfere.proofs.Bodies.{is_mhp}
use Rattle.par_interfere.proofs.CallTables.{fun_low}
use Rattle.par_interfere.proofs.interfere.rows_of.Goals as goal

pub bodies-requires-clause-called : goal.bodies-requires-clause-called
bodies-requires-clause-called c k d low n p less =
    let exists = fun_low c.args.c.now c.args.points.now c.requires.points n p less in
    let long = (c.requires.branches.each k d low).long in
    omega (arith, exists, long)

pub beside_points-requires-clause-points : goal.beside_points-requires-clause-points
beside_points-requires-clause-points c k d low =
    let exists = fun_low c.args.c.now c.args.points.now c.requires.points k d low in
    let height = c.in_ok-funs.ensures.shape.height in
    omega (arith, exists, height, c.len.ensures, ap length c.deref-4.ensures.value)

pub returns-clause-rows : goal.returns-clause-rows
returns-clause-rows c =
    let points = c.args.points.now in
    let branches = c.args.branches.now in
    is_mhp c.args.c.now points c.requires.points branches c.requires.branches c.in_ok-bodies.bodies.items c.in_ok-others.others.items c.in_ok-rows.rows.items c.in_ok-bodies.ensures
    (subst (λ bodies. AreOthers (length points) branches bodies c.in_ok-others.others.items) c.deref.ensures.value c.in_ok-others.ensures)
    (subst (λ others. AreBesidePoints points branches others c.in_ok-rows.rows.items) c.deref-3.ensures.value c.in_ok-rows.ensures)
