use Rattle.std.proofs.Common.{◌≡◌, ℕ, ◌+◌, ◌↔◌, true, length, get_or, sym, ap, subst, ◌∙◌, arith}
use Rattle.flow_rules.specs.PointNumber.{point_at}
use Rattle.std.proofs.lemmas.Option.{slice_get-get_or}
use Rattle.dfi_base.specs.Bits.{has}
use Rattle.std.proofs.lemmas.List.{length-set}
use Rattle.dfi_base.proofs.RowLaws.{length_joined}
use Rattle.par_interfere.specs.tools.Calls.{CallsFrom}
use Rattle.par_interfere.proofs.BranchLists.{from_more, from_skip}
use Rattle.par_interfere.proofs.CallTables.{callee_exists, between, not_between}
use Rattle.par_interfere.proofs.Joins.{row_at, row_long}
use Rattle.par_interfere.proofs.branches.called_from.Goals as goal
use Rattle.par_interfere.proofs.branches.called_from.Goals.{then-is_between+in-Some, then-is_between+in_default, else-is_between}

pub put-requires : goal.put-requires
put-requires c =
    let exists = callee_exists c.args.c.now c.requires.form (get_or c.args.points.now c.loop-p.p-index (point_at 0 0)) c.in-Some.callee (sym c.callee.ensures ∙ c.in-Some.is) in
    omega (arith, exists, c.loop-p.invariant.long)

pub bounds-table-callee : goal.bounds-table-callee
bounds-table-callee c =
    let exists = callee_exists c.args.c.now c.requires.form (get_or c.args.points.now c.loop-p.p-index (point_at 0 0)) c.in-Some.callee (sym c.callee.ensures ∙ c.in-Some.is) in
    let height = c.requires.table.shape.height in
    omega (arith, exists, height)

pub or-requires : goal.or-requires
or-requires c =
    let n = length c.args.c.now.funs in
    let t = c.args.table.now in
    let exists = callee_exists c.args.c.now c.requires.form (get_or c.args.points.now c.loop-p.p-index (point_at 0 0)) c.in-Some.callee (sym c.callee.ensures ∙ c.in-Some.is) in
    let row = row_at n n t c.in-Some.callee c.index-table-callee.result c.requires.table.shape exists c.index-table-callee.is in
    ap length c.put.ensures ∙ length-set c.loop-p.called c.in-Some.callee true ∙ c.loop-p.invariant.long ∙ sym (ap length row ∙ row_long n n t c.in-Some.callee c.requires.table.shape exists)

pub loop-p-preserved : goal.loop-p-preserved
loop-p-preserved c =
    let n = length c.args.c.now.funs in
    let t = c.args.table.now in
    let p = (get_or c.args.points.now c.loop-p.p-index (point_at 0 0)) in
    let listed = slice_get-get_or c.args.points.now c.loop-p.p-index (point_at 0 0) c.loop-p-test.true in
    elim c.if-is_between.branch [
      | then-is_between+in-Some w ↦
          let calls = sym w.callee.ensures ∙ w.in-Some.is in
          let exists = callee_exists c.args.c.now c.requires.form p w.in-Some.callee calls in
          let row = row_at n n t w.in-Some.callee w.index-table-callee.result c.requires.table.shape exists w.index-table-callee.is in
          let long = c.loop-p.invariant.long ∙ sym (ap length row ∙ row_long n n t w.in-Some.callee c.requires.table.shape exists) in
          let k = between p c.args.fun c.args.first c.args.last (sym c.is_between.ensures ∙ w.if-is_between.true) in
          let made = w.called-is ∙ w.or.ensures.row in
          record {
            long = ap length made ∙ length_joined w.put.new.self w.index-table-callee.result (ap length w.put.ensures ∙ length-set c.loop-p.called w.in-Some.callee true ∙ long)
                ∙ ap length w.put.ensures ∙ length-set c.loop-p.called w.in-Some.callee true ∙ c.loop-p.invariant.long;
            called = from_more c.args.c.now c.args.points.now c.args.fun c.args.first c.args.last c.loop-p.p-index p w.in-Some.callee t c.loop-p.called w.put.new.self w.index-table-callee.result
                c.if-is_between.called listed k.fun k.after k.before calls c.requires.table (omega (arith, exists, c.loop-p.invariant.long)) long row w.put.ensures made c.loop-p.invariant.called;
          }
      | then-is_between+in_default w ↦
          let same = w.called-is in
          record {
            long = ap length same ∙ c.loop-p.invariant.long;
            called = subst (λ r. (g : ℕ) → (has r g ≡ true) ↔ CallsFrom c.args.c.now c.args.points.now (c.loop-p.p-index + 1) c.args.fun c.args.first c.args.last g) (sym same)
                (from_skip c.args.c.now c.args.points.now c.args.fun c.args.first c.args.last c.loop-p.p-index p c.loop-p.called listed
                (λ g fun after before is. w.in_default.not-Some g (w.callee.ensures ∙ is)) c.loop-p.invariant.called);
          }
      | else-is_between w ↦
          let same = w.called-is in
          record {
            long = ap length same ∙ c.loop-p.invariant.long;
            called = subst (λ r. (g : ℕ) → (has r g ≡ true) ↔ CallsFrom c.args.c.now c.args.points.now (c.loop-p.p-index + 1) c.args.fun c.args.first c.args.last g) (sym same)
                (from_skip c.args.c.now c.args.points.now c.args.fun c.args.first c.args.last c.loop-p.p-index p c.loop-p.called listed
                (λ g fun after before is. not_between p c.args.fun c.args.first c.args.last (sym c.is_between.ensures ∙ w.if-is_between.false) fun after before) c.loop-p.invariant.called);
          }
    ]
