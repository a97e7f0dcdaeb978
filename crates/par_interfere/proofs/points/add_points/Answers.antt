use Rattle.std.proofs.Common.{◌≡◌, [], ◌∷◌, ◌++◌, length, sym, ap, subst, arith}
use Rattle.std.proofs.lemmas.List.{length_push}
use Rattle.tac_ir.specs.GoodModule.{IsPoint}
use Rattle.flow_rules.specs.PointNumber.{point_at, point_number}
use Rattle.par_interfere.specs.tools.Points.{AreNumbered}
use Rattle.par_interfere.proofs.PointLists.{numbered_push}
use Rattle.par_interfere.proofs.points.add_points.Goals as goal

pub loop-at-preserved : goal.loop-at-preserved
loop-at-preserved c =
    let p = point_at c.args.fun c.loop-at.at in
    let items : c.push.new.self.items ≡ c.loop-at.points.items ++ p ∷ [] = c.in_ok-push.ensures.items in
    let real : IsPoint c.args.c.now p = omega (arith, c.loop-at-test.true, c.requires.count) in
    let number : length c.loop-at.points.items ≡ point_number c.args.c.now p = omega (arith, c.loop-at.invariant.count, c.requires.first) in
    record {
      numbered = subst (AreNumbered c.args.c.now) (sym items) (numbered_push c.args.c.now c.loop-at.points.items p c.loop-at.invariant.numbered real number);
      count = omega (arith, ap length items, length_push c.loop-at.points.items p, c.loop-at.invariant.count);
    }
