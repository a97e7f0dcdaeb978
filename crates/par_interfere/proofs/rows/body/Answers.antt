use Rattle.std.proofs.Common.{◌≡◌, get_or, Some, sym, subst, ◌∙◌}
use Rattle.std.specs.Prelude.{slice_get}
use Rattle.par_interfere.proofs.Joins.{IsRowTo, row_none, row_put, row_pass, row_whole}
use Rattle.flow_rules.specs.PointNumber.{point_at}
use Rattle.std.proofs.lemmas.Option.{slice_get-get_or}
use Rattle.par_interfere.specs.tools.Branches.{has_point}
use Rattle.par_interfere.proofs.rows.body.Goals as goal
use Rattle.par_interfere.proofs.rows.body.Goals.{then-has_point, else-has_point}

here : (c : goal.Joined-has_point) → slice_get c.args.points.now c.loop-at.at ≡ Some (get_or c.args.points.now c.loop-at.at (point_at 0 0))
here c = slice_get-get_or c.args.points.now c.loop-at.at (point_at 0 0) c.loop-at-test.true

pub loop-at-init : goal.loop-at-init
loop-at-init c = subst (IsRowTo (has_point c.args.branch.now) c.args.points.now 0) (sym c.in_ok-body.ensures) (row_none (has_point c.args.branch.now) c.args.points.now)

pub loop-at-preserved : goal.loop-at-preserved
loop-at-preserved c = elim c.if-has_point.branch [
  | then-has_point w ↦
      row_put (has_point c.args.branch.now) c.args.points.now c.loop-at.at (get_or c.args.points.now c.loop-at.at (point_at 0 0)) c.loop-at.body c.if-has_point.body
      c.loop-at-test.true (here c) (sym c.has_point.ensures ∙ w.if-has_point.true) (w.body-is ∙ w.put.ensures) c.loop-at.invariant
  | else-has_point w ↦
      row_pass (has_point c.args.branch.now) c.args.points.now c.loop-at.at (get_or c.args.points.now c.loop-at.at (point_at 0 0)) c.loop-at.body c.if-has_point.body
      (here c) (sym c.has_point.ensures ∙ w.if-has_point.false) w.body-is c.loop-at.invariant
]

pub returns : goal.returns
returns c = row_whole (has_point c.args.branch.now) c.args.points.now c.loop-at.at c.loop-at.body c.loop-at-test.false c.loop-at.invariant
