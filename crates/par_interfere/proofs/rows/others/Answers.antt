use Rattle.std.proofs.Common.{◌≡◌, ◌+◌, false, [], ◌∷◌, ◌++◌, length, replicate, sym, subst, ◌∙◌, arith}
use Rattle.std.specs.Prelude.{slice_index_or}
use Rattle.par_interfere.proofs.Joins.{EachRow, IsAt, each_push, rows_push, no_rows, join_none}
use Rattle.std.proofs.lemmas.Option.{slice_get_within, get_or_from_slice_get}
use Rattle.par_interfere.specs.tools.Calls.{AreRows}
use Rattle.par_interfere.specs.tools.Rows.{IsJoinOf}
use Rattle.par_interfere.specs.tools.Branches.{are_beside}
use Rattle.std.proofs.lemmas.List.{length-replicate}
use Rattle.par_interfere.proofs.rows.others.Goals as goal

pub loop-branch-init : goal.loop-branch-init
loop-branch-init c = record { shape = subst (AreRows 0 c.args.width) (sym c.new-others.ensures.items) (no_rows c.args.width); each = λ i low. absurd (omega (arith, low)) }

pub loop-branch-preserved : goal.loop-branch-preserved
loop-branch-preserved c =
    let items : c.push.new.self.items ≡ c.loop-branch.others.items ++ c.in_ok-beside_branch.field-0 ∷ [] = c.in_ok-push.ensures.items in
    record {
      shape = subst (AreRows (c.loop-branch.branch-index + 1) c.args.width) (sym items) (rows_push c.loop-branch.branch-index c.args.width c.loop-branch.others.items c.in_ok-beside_branch.field-0 c.loop-branch.invariant.shape (c.in_ok-beside_branch.ensures.long ∙ length-replicate c.args.width false));
      each = subst (EachRow (IsAt (λ b. IsJoinOf (are_beside b) c.args.branches.now c.args.bodies.now (length c.args.branches.now) (replicate c.args.width false)) c.args.branches.now) (c.loop-branch.branch-index + 1)) (sym items)
          (each_push (IsAt (λ b. IsJoinOf (are_beside b) c.args.branches.now c.args.bodies.now (length c.args.branches.now) (replicate c.args.width false)) c.args.branches.now) c.loop-branch.branch-index c.loop-branch.others.items c.in_ok-beside_branch.field-0 c.loop-branch.invariant.shape.height c.loop-branch.invariant.each (λ x is.
          subst (λ b. IsJoinOf (are_beside b) c.args.branches.now c.args.bodies.now (length c.args.branches.now) (replicate c.args.width false) c.in_ok-beside_branch.field-0)
          (c.branch-item.is ∙ get_or_from_slice_get c.args.branches.now c.loop-branch.branch-index x c.branch-item.result is) c.in_ok-beside_branch.ensures));
    }

pub returns : goal.returns
returns c =
    let all : c.loop-branch.branch-index ≡ length c.args.branches.now = (let low = c.loop-branch.auto.branch-index-end in omega (arith, low, c.loop-branch-test.false)) in
    record {
      shape = subst (λ n. AreRows n c.args.width c.loop-branch.others.items) all c.loop-branch.invariant.shape;
      each = λ i b is k.
          join_none (are_beside b) c.args.branches.now c.args.bodies.now (length c.args.branches.now) c.args.width (slice_index_or c.loop-branch.others.items i [])
          (c.loop-branch.invariant.each i (let low = slice_get_within c.args.branches.now i b is in omega (arith, low, all)) b is) k;
    }
