use Rattle.std.proofs.Common.{◌≡◌, ◌+◌, [], ◌∷◌, ◌++◌, length, sym, subst, ◌∙◌, arith}
use Rattle.par_interfere.proofs.Joins.{EachRow, IsAt, each_push, rows_push, no_rows}
use Rattle.std.proofs.lemmas.Option.{slice_get_within, get_or_from_slice_get}
use Rattle.par_interfere.specs.tools.Calls.{AreRows}
use Rattle.par_interfere.specs.tools.Rows.{IsRowOf}
use Rattle.par_interfere.specs.tools.Branches.{has_point}
use Rattle.par_interfere.proofs.rows.bodies.Goals as goal

pub loop-branch-init : goal.loop-branch-init
loop-branch-init c = record { shape = subst (AreRows 0 (length c.args.points.now)) (sym c.new-bodies.ensures.items) (no_rows (length c.args.points.now)); each = λ i low. absurd (omega (arith, low)) }

pub loop-branch-preserved : goal.loop-branch-preserved
loop-branch-preserved c =
    let items : c.push.new.self.items ≡ c.loop-branch.bodies.items ++ c.in_ok-body.field-0 ∷ [] = c.in_ok-push.ensures.items in
    record {
      shape = subst (AreRows (c.loop-branch.branch-index + 1) (length c.args.points.now)) (sym items) (rows_push c.loop-branch.branch-index (length c.args.points.now) c.loop-branch.bodies.items c.in_ok-body.field-0 c.loop-branch.invariant.shape c.in_ok-body.ensures.long);
      each = subst (EachRow (IsAt (λ b. IsRowOf (has_point b) c.args.points.now) c.args.branches.now) (c.loop-branch.branch-index + 1)) (sym items)
          (each_push (IsAt (λ b. IsRowOf (has_point b) c.args.points.now) c.args.branches.now) c.loop-branch.branch-index c.loop-branch.bodies.items c.in_ok-body.field-0 c.loop-branch.invariant.shape.height c.loop-branch.invariant.each (λ x is.
          subst (λ b. IsRowOf (has_point b) c.args.points.now c.in_ok-body.field-0)
          (c.branch-item.is ∙ get_or_from_slice_get c.args.branches.now c.loop-branch.branch-index x c.branch-item.result is) c.in_ok-body.ensures));
    }

pub returns : goal.returns
returns c =
    let all : c.loop-branch.branch-index ≡ length c.args.branches.now = (let low = c.loop-branch.auto.branch-index-end in omega (arith, low, c.loop-branch-test.false)) in
    record {
      shape = subst (λ n. AreRows n (length c.args.points.now) c.loop-branch.bodies.items) all c.loop-branch.invariant.shape;
      each = λ i b is. c.loop-branch.invariant.each i (let low = slice_get_within c.args.branches.now i b is in omega (arith, low, all)) b is;
    }
