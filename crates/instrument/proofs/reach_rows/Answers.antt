use Rattle.std.proofs.Common.{◌≡◌, ℕ, ◌+◌, ◌++◌, map, sum, take, drop, sym, ap, ◌∙◌, arith}
use Rattle.instrument.specs.tools.MadeRows.{rows_of}
use Rattle.instrument.proofs.MakingRows.{fun_at, fun_step, size}
use Rattle.instrument.proofs.reach_rows.Goals as goal

pub add_rows-requires-clause-within : goal.add_rows-requires-clause-within
add_rows-requires-clause-within c =
    let step = fun_step c.as_slice-funs.result.now c.loop-fun.fun c.index-funs-fun.result c.loop-fun-test.true c.index-funs-fun.is in
    let fits = step.fits in
    let own = c.len-count.ensures ∙ ap size (sym c.index-funs-fun.is) in
    omega (arith, fits, c.loop-fun.invariant.1, own, c.requires.count, ap (λ fs. sum (map size fs)) c.as_slice-funs.ensures)

pub overflow_add-first : goal.overflow_add-first
overflow_add-first c =
    let step = fun_step c.as_slice-funs.result.now c.loop-fun.fun c.index-funs-fun.result c.loop-fun-test.true c.index-funs-fun.is in
    let fits = step.fits in
    let own = c.len-count.ensures ∙ ap size (sym c.index-funs-fun.is) in
    omega (arith, fits, c.loop-fun.invariant.1, own, c.requires.form.limits.points, ap (λ fs. sum (map size fs)) c.as_slice-funs.ensures)

sum_next : (first count a b next : ℕ) → first ≡ a → count ≡ b → next ≡ a + b → first + count ≡ next
sum_next first count a b next x y z = omega (arith, x, y, z)

pub loop-fun-preserved : goal.loop-fun-preserved
loop-fun-preserved c =
    let funs = c.as_slice-funs.result.now in
    let k = c.loop-fun.fun in
    let x = c.index-funs-fun.result in
    let rows = c.args.rows.now in
    let step = fun_step funs k x c.loop-fun-test.true c.index-funs-fun.is in
    let next = step.next in
    let own : c.len-count.result ≡ size x = c.len-count.ensures ∙ ap size (sym c.index-funs-fun.is) in
    let made : c.add_rows.new.made ≡ c.loop-fun.made ++ rows_of k 0 (take c.len-count.result (drop c.loop-fun.first rows)) = c.in_ok-add_rows.ensures in (
      made ∙ ap (λ xs. xs ++ rows_of k 0 (take c.len-count.result (drop c.loop-fun.first rows))) c.loop-fun.invariant.0
          ∙ sym (fun_at funs k x rows c.loop-fun.first c.len-count.result c.loop-fun-test.true c.index-funs-fun.is c.loop-fun.invariant.1 own),
      sum_next c.loop-fun.first c.len-count.result (sum (map size (take k funs))) (size x) (sum (map size (take (k + 1) funs))) c.loop-fun.invariant.1 own next,
    )
