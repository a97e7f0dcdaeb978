-- Two threads that run stand at parallel points: along each chain of trees.
use Rattle.std.proofs.Common.{◌≡◌, ℕ, suc, ◌+◌, ◌-◌, ◌*◌, ◌/◌, ◌%◌, ◌≤◌, ◌<◌, ◌⊎◌, ⊎_elim, List, [], Bool, true, false, refl, Option, Some, None, arith, sym, ◌∙◌, ap, subst}
use Rattle.std.specs.Prelude.{slice_get, Contains}
use Rattle.dfi_base.specs.Names.{Below, Kin}
use Rattle.dfi_base.specs.Names.Below.{itself, branch}
use Rattle.dfi_base.specs.Names.Kin.{is_above, is_below, are_beside}
use Rattle.dfi_base.proofs.Names.{kin, low_below}
use Rattle.tac_ir.specs.declared.code.Code.{Code}
use Rattle.tac_ir.specs.declared.code.Instr.{Instr}
use Rattle.tac_ir.specs.declared.code.Lined.{Lined}
use Rattle.tac_ir.specs.Layout.{lines_of}
use Rattle.tac_ir.specs.Path.{region_in}
use Rattle.tac_ir.specs.Regions.{Region, regions_in}
use Rattle.tac_ir.specs.Bodies.{InBody, Parallel}
use Rattle.tac_ir.specs.GoodForm.{GoodForm, IsGoodCode, IsGoodFork}
use Rattle.tac_ir.proofs.regions.Counted.{HasEntry}
use Rattle.tac_ir.proofs.regions.Outside.{fork_of}
use Rattle.tac_ir.proofs.regions.Leads.{entry_own}
use Rattle.tac_thread.specs.Meaning.{Meaning}
use Rattle.tac_thread.specs.Life.{Life}
use Rattle.tac_thread.specs.Threads.{Lives, is_waiting, point_of}
use Rattle.tree_law.specs.Placed.{IsBranchOf, ArePlaced}
use Rattle.tree_law.specs.Chain.{Saying, IsTreeAfter}
use Rattle.tree_law.proofs.lives.Lines.{IsThere, there, good_code}
use Rattle.tree_law.proofs.lives.Placing.{places_along}
use Rattle.tree_law.proofs.trees.Ancestors.{HaveParents, below_first, not_first, above, branches_of_one}
use Rattle.tree_law.proofs.trees.Along.{tree_of}
use Rattle.live_law.proofs.Bodies.{IsRegionOf, region_at_entry, standing_body, child_body, entries_apart}

-- what is below a thread in a body is in that body
below_body : {V S : Type 0} → (c : Code) (g : ℕ) (r : Region) (f : Lives V S) → GoodForm c → HaveParents f → ArePlaced c f → Contains (regions_in (lines_of c g)) r → (a n : ℕ) (la l : Life V S) → Below a n
    → f a ≡ Some la → InBody c g r (point_of la) → f n ≡ Some l → InBody c g r (point_of l)
below_body {V} {S} c g r f good parents placed listed a n la l (itself k same) at_a body lives =
    let both : Some la ≡ Some l = sym at_a ∙ ap f (sym same) ∙ lives in
    let one : la ≡ l = cc in
    subst (λ (z : Life V S). InBody c g r (point_of z)) one body
below_body c g r f good parents placed listed a n la l (branch k some below) at_a body lives =
    let other = not_first f parents a k la at_a below in
    let h = parents k l lives other in
    let p = h.1.0 in
    let up = below_body c g r f good parents placed listed a (k / 16) la p below at_a body h.1.1 in
    let b = placed.branches k p l h.0 other lives h.1.1 in
    let code = lines_of c p.top.fun in
    let t = there code p.top.at (Instr.Fork b.join b.entries) b.fork (λ z. cc) in
    let fine = good_code c good p.top.fun p.top.at t.line t.found in
    let has : HasEntry code p.top.at (k % 16 - 1) b.entry b.join = record { line = t.line; here = t.found; entries = b.entries; fork = t.is; entry = b.listed } in
    let own = entry_own c p.top.fun code fine p.top.at (k % 16 - 1) b.entry b.join has in
    child_body c g p.top.fun b.entry p.top.at (k % 16 - 1) b.join r fine listed has own (point_of p) up refl refl l.top l.callers b.placed.stands

-- Two branches.

abbrev entries_of : Instr → List ℕ
entries_of (Instr.Fork join entries) = entries
entries_of i = []

two_branches : {V S : Type 0} → (c : Code) (f : Lives V S) → GoodForm c → HaveParents f → ArePlaced c f → (a i j n k : ℕ) (x y p l q : Life V S) → (i ≡ j → ⊥) → 0 < i → i ≤ 15 → 0 < j → j ≤ 15
    → f a ≡ Some p → f (16 * a + i) ≡ Some x → f (16 * a + j) ≡ Some y → 1 ≤ a → Below (16 * a + i) n → Below (16 * a + j) k → f n ≡ Some l → f k ≡ Some q → Parallel c (point_of l) (point_of q)
two_branches {V} {S} c f good parents placed a i j n k x y p l q other some_i low some_j high parent left right some below_n below_k lives_n lives_k = record {
  fun = p.top.fun;
  left = ri.region;
  right = rj.region;
  left_region = ri.listed;
  right_region = rj.listed;
  one_fork = ri.fork ∙ sym rj.fork;
  apart = λ same. entries_apart bi.entries bi.join fork.ascends (i - 1) (j - 1) bi.entry bj.entry (λ e. other (omega (arith, e, some_i, some_j))) bi.listed listed_j (sym ri.entry ∙ same ∙ rj.entry);
  left_body = below_body c p.top.fun ri.region f good parents placed ri.listed (16 * a + i) n x l below_n left
      (standing_body c p.top.fun bi.entry fine ri.region ri.listed ri.entry (entry_own c p.top.fun code fine p.top.at (i - 1) bi.entry bi.join hi) x.top x.callers bi.placed.stands) lives_n;
  right_body = below_body c p.top.fun rj.region f good parents placed rj.listed (16 * a + j) k y q below_k right
      (standing_body c p.top.fun bj.entry fine rj.region rj.listed rj.entry (entry_own c p.top.fun code fine p.top.at (j - 1) bj.entry bi.join hj) y.top y.callers bj.placed.stands) lives_k;
}
  where
    code : List Lined
    code = lines_of c p.top.fun

    branch_of_a : (d : ℕ) (z : Life V S) → 0 < d → d ≤ 15 → f (16 * a + d) ≡ Some z → IsBranchOf c p d z
    branch_of_a d z some_d small lives =
        let up : a ≡ (16 * a + d) / 16 = omega (arith, small) in
        let place : (16 * a + d) % 16 ≡ d = omega (arith, small) in
        subst (λ w. IsBranchOf c p w z) place (placed.branches (16 * a + d) p z (omega (arith, place, some_d)) (λ e. omega (arith, e, some)) lives (subst (λ w. f w ≡ Some p) up parent))

    bi : IsBranchOf c p i x
    bi = branch_of_a i x some_i low left

    bj : IsBranchOf c p j y
    bj = branch_of_a j y some_j high right

    t : IsThere code p.top.at (Instr.Fork bi.join bi.entries)
    t = there code p.top.at (Instr.Fork bi.join bi.entries) bi.fork (λ z. cc)

    fine : IsGoodCode c p.top.fun code
    fine = good_code c good p.top.fun p.top.at t.line t.found

    hi : HasEntry code p.top.at (i - 1) bi.entry bi.join
    hi = record { line = t.line; here = t.found; entries = bi.entries; fork = t.is; entry = bi.listed }

    listed_j : slice_get bi.entries (j - 1) ≡ Some bj.entry
    listed_j = subst (λ es. slice_get es (j - 1) ≡ Some bj.entry) (ap entries_of (sym bj.fork ∙ bi.fork)) bj.listed

    hj : HasEntry code p.top.at (j - 1) bj.entry bi.join
    hj = record { line = t.line; here = t.found; entries = bi.entries; fork = t.is; entry = listed_j }

    fork : IsGoodFork code p.top.at bi.join bi.entries
    fork = fork_of c p.top.fun code fine p.top.at (i - 1) bi.entry bi.join hi

    ri : IsRegionOf code p.top.at bi.entry
    ri = region_at_entry c p.top.fun code fine p.top.at (i - 1) bi.entry bi.join hi

    rj : IsRegionOf code p.top.at bj.entry
    rj = region_at_entry c p.top.fun code fine p.top.at (j - 1) bj.entry bi.join hj

-- on a tree
pub live_points : {V S : Type 0} → (c : Code) (f : Lives V S) → GoodForm c → HaveParents f → ArePlaced c f → (n k : ℕ) (l q : Life V S) → (n ≡ k → ⊥) → f n ≡ Some l → f k ≡ Some q
    → is_waiting l.stage ≡ false → is_waiting q.stage ≡ false → Parallel c (point_of l) (point_of q)
live_points {V} {S} c f good parents placed n k l q other lives_n lives_k awake_n awake_k = by (kin 1 n k (below_first f parents n l lives_n) (below_first f parents k q lives_k))
  where
    not_above : (x y : ℕ) (lx ly : Life V S) → (x ≡ y → ⊥) → f x ≡ Some lx → f y ≡ Some ly → is_waiting lx.stage ≡ false → Below x y → ⊥
    not_above x y lx ly differ lives_x lives_y awake below =
        let low = low_below 1 x (below_first f parents x lx lives_x) in
        let u = above f parents x y ly below low lives_y in
        let both : Some u.life ≡ Some lx = sym u.lives ∙ lives_x in
        let same : u.life ≡ lx = cc in
        ⊎_elim differ (λ (w : is_waiting u.life.stage ≡ true). let clash : true ≡ false = sym w ∙ ap (λ (z : Life V S). is_waiting z.stage) same ∙ awake in cc) u.waits

    by : Kin n k → Parallel c (point_of l) (point_of q)
    by (is_above below) = absurd (not_above n k l q other lives_n lives_k awake_n below)
    by (is_below below) = absurd (not_above k n q l (λ e. other (sym e)) lives_k lives_n awake_k below)
    by (are_beside a i j differ li hi lj hj left right) =
        let x = above f parents (16 * a + i) n l left (omega (arith, li)) lives_n in
        let y = above f parents (16 * a + j) k q right (omega (arith, lj)) lives_k in
        let two = branches_of_one f parents a i j x.life y.life differ li hi lj hj x.lives y.lives in
        two_branches c f good parents placed a i j n k x.life y.life two.parent l q differ li hi lj hj two.lives x.lives y.lives two.some left right lives_n lives_k

-- along a chain
pub points_along : {V S E : Type 0} → (m : Meaning V S) (c : Code) → GoodForm c → (s : S) (say : Saying V S E) (h : List E) (f : Lives V S) (d : Option V) → IsTreeAfter m c s say h f d
    → (n k : ℕ) (l q : Life V S) → (n ≡ k → ⊥) → f n ≡ Some l → f k ≡ Some q → is_waiting l.stage ≡ false → is_waiting q.stage ≡ false → Parallel c (point_of l) (point_of q)
points_along m c good s say h f d chain n k l q other lives_n lives_k awake_n awake_k =
    live_points c f good (tree_of m c s say h f d chain).threads.parents (places_along m c good s say h f d chain) n k l q other lives_n lives_k awake_n awake_k
