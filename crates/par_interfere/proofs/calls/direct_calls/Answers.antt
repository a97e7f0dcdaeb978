use Rattle.std.proofs.Common.{◌≡◌, ◌+◌, true, false, length, get_or, set, replicate, sym, ap, subst, ◌∙◌, arith}
use Rattle.flow_rules.specs.PointNumber.{point_at}
use Rattle.std.proofs.lemmas.Option.{slice_get-get_or}
use Rattle.std.proofs.lemmas.List.{length-set}
use Rattle.par_interfere.specs.tools.Calls.{AreCalls, AreRows}
use Rattle.par_interfere.proofs.Adding.{table_none, no_calls, wide_set}
use Rattle.par_interfere.proofs.BranchLists.{calls_more, calls_skip}
use Rattle.par_interfere.proofs.CallTables.{callee_exists, fun_low}
use Rattle.par_interfere.proofs.Joins.{row_at, row_long}
use Rattle.par_interfere.proofs.calls.direct_calls.Goals as goal
use Rattle.par_interfere.proofs.calls.direct_calls.Goals.{in-Some, in_default}

pub loop-p-init : goal.loop-p-init
loop-p-init c =
    let n = length c.args.c.now.funs in
    let len : c.len-count.result ≡ n = c.len-count.ensures in
    let items : c.in_ok-table.table.items ≡ replicate n (replicate n false) = c.in_ok-table.ensures ∙ ap (λ k. replicate k (replicate k false)) len in
    record { shape = subst (AreRows n n) (sym items) (table_none n n); calls = subst (AreCalls c.args.c.now c.args.points.now 0) (sym items) (no_calls c.args.c.now c.args.points.now n n) }

pub callee-requires : goal.callee-requires
callee-requires c = (c.requires.points.numbered c.loop-p.p-index (get_or c.args.points.now c.loop-p.p-index (point_at 0 0)) (slice_get-get_or c.args.points.now c.loop-p.p-index (point_at 0 0) c.loop-p-test.true)).real

pub index_mut-requires : goal.index_mut-requires
index_mut-requires c = (let height = c.loop-p.invariant.shape.height in omega (arith, height, fun_low c.args.c.now c.args.points.now c.requires.points c.loop-p.p-index (point_at 0 0) c.loop-p-test.true))

pub put-requires : goal.put-requires
put-requires c =
    let n = length c.args.c.now.funs in
    let low = fun_low c.args.c.now c.args.points.now c.requires.points c.loop-p.p-index (point_at 0 0) c.loop-p-test.true in
    let exists = callee_exists c.args.c.now c.requires.form (get_or c.args.points.now c.loop-p.p-index (point_at 0 0)) c.in-Some.fun (sym c.callee.ensures ∙ c.in-Some.is) in
    let row = row_at n n c.loop-p.table.items (get_or c.args.points.now c.loop-p.p-index (point_at 0 0)).fun c.index_mut.result.now c.loop-p.invariant.shape low c.index_mut.ensures.value in
    omega (arith, exists, ap length row ∙ row_long n n c.loop-p.table.items (get_or c.args.points.now c.loop-p.p-index (point_at 0 0)).fun c.loop-p.invariant.shape low)

pub loop-p-preserved : goal.loop-p-preserved
loop-p-preserved c =
    let n = length c.args.c.now.funs in
    let t = c.loop-p.table.items in
    let p = (get_or c.args.points.now c.loop-p.p-index (point_at 0 0)) in
    let listed = slice_get-get_or c.args.points.now c.loop-p.p-index (point_at 0 0) c.loop-p-test.true in
    let low = fun_low c.args.c.now c.args.points.now c.requires.points c.loop-p.p-index (point_at 0 0) c.loop-p-test.true in
    elim c.match-callee.branch [
      | in-Some w ↦
          let height = c.loop-p.invariant.shape.height in
          let calls = sym c.callee.ensures ∙ w.in-Some.is in
          let exists = callee_exists c.args.c.now c.requires.form p w.in-Some.fun calls in
          let row = row_at n n t p.fun w.index_mut.result.now c.loop-p.invariant.shape low w.index_mut.ensures.value in
          let long = ap length row ∙ row_long n n t p.fun c.loop-p.invariant.shape low in
          let made : c.match-callee.table.items ≡ set t p.fun w.put.new.self = ap (λ z. z.items) w.table-is in
          record {
            shape = subst (AreRows n n) (sym made) (wide_set n n p.fun t w.put.new.self (ap length w.put.ensures ∙ length-set w.index_mut.result.now w.in-Some.fun true ∙ long) c.loop-p.invariant.shape);
            calls = calls_more c.args.c.now c.args.points.now c.loop-p.p-index p w.in-Some.fun t c.match-callee.table.items w.index_mut.result.now w.put.new.self listed calls
                (omega (arith, low, height)) row (omega (arith, exists, long)) w.put.ensures made c.loop-p.invariant.calls;
          }
      | in_default w ↦
          let same : c.match-callee.table.items ≡ t = ap (λ z. z.items) w.table-is in
          record {
            shape = subst (AreRows n n) (sym same) c.loop-p.invariant.shape;
            calls = subst (AreCalls c.args.c.now c.args.points.now (c.loop-p.p-index + 1)) (sym same)
                (calls_skip c.args.c.now c.args.points.now c.loop-p.p-index p t listed (λ g is. w.in_default.not-Some g (c.callee.ensures ∙ is)) c.loop-p.invariant.calls);
          }
    ]
