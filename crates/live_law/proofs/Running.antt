-- The points of two runnable threads of a run.
use Rattle.std.proofs.Common.{◌≡◌, ℕ, List, refl, sym, ap, ◌∙◌, subst, Option, Some}
use Rattle.std.specs.Prelude.{ℤ}
use Rattle.dfi_base.specs.Lives.{IsNext}
use Rattle.tac_ir.specs.declared.run.Entry.{Entry}
use Rattle.tac_ir.specs.Module.{Module}
use Rattle.tac_ir.specs.Bodies.{Parallel}
use Rattle.tac_ir.specs.GoodForm.{GoodForm}
use Rattle.tac_ir.specs.Path.{Start}
use Rattle.tac_ir.specs.Threads.{Want, threads_of}
use Rattle.tac_ir.specs.CoreRun.{GoesOn, IsHistory}
use Rattle.tac_ir.proofs.Living.{wanted_one}
use Rattle.tac_thread.specs.Flat.{flat_meaning}
use Rattle.tac_thread.proofs.Trees.{running_is}
use Rattle.path_law.specs.Standing.{point_of}
use Rattle.path_law.specs.Begins.{root_stack}
use Rattle.path_law.specs.Wants.{next_of}
use Rattle.path_law.proofs.TreeLaws.{next_event, same_runnable}
use Rattle.chain_law.specs.RunTree.{run_says}
use Rattle.chain_law.proofs.histories.Chained.{chain_of, goes_alive}
use Rattle.live_law.specs.Laws.{RunnablePointsAreParallel}
use Rattle.live_law.proofs.Points.{points_along}

pub runnable_parallel : RunnablePointsAreParallel
runnable_parallel m input good h history going n k s t v w other first second =
    let c = chain_of m input good h history in
    let alive = goes_alive m h c.lives c.value going c.last in
    let a = (same_runnable m h c.lives c.value n alive).1 (s, v, first) in
    let b = (same_runnable m h c.lives c.value k alive).1 (t, w, second) in
    let x = next_event m h c.lives c.value n a.0 alive a.1 in
    let y = next_event m h c.lives c.value k b.0 alive b.1 in
    let here = running_is (c.lives n) a.0 a.1 in
    let there = running_is (c.lives k) b.0 b.1 in
    let law = points_along flat_meaning m.code good (root_stack m) (run_says m input) h c.lives c.value c.chain n k a.0 b.0 other here.0 there.0 here.1 there.1 in
    let p : v.point ≡ point_of a.0.top = ap (λ (z : Want). z.point) (wanted_one m h n s x.start v (next_of a.0 x.op) first x.next).1 in
    let q : w.point ≡ point_of b.0.top = ap (λ (z : Want). z.point) (wanted_one m h k t y.start w (next_of b.0 y.op) second y.next).1 in
    subst (λ z. Parallel m.code z w.point) (sym p) (subst (λ z. Parallel m.code (point_of a.0.top) z) (sym q) law)
