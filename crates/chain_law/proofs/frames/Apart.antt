-- Frames of two threads that live share no word.
use Rattle.std.proofs.Common.{◌≡◌, ℕ, zero, suc, ◌+◌, ◌-◌, ◌*◌, ◌/◌, ◌%◌, ◌<◌, ◌≤◌, ◌⊎◌, inl, inr, ⊎_elim, List, [], ◌∷◌, refl, Option, Some, arith, sym, ◌∙◌, ap, subst}
use Rattle.std.specs.Prelude.{ℤ, Contains}
use Rattle.std.proofs.Math.Nat.{mul-div-le}
use Rattle.dfi_base.specs.Names.{Below, Kin}
use Rattle.dfi_base.specs.Names.Below.{itself, branch}
use Rattle.dfi_base.specs.Names.Kin.{is_above, is_below, are_beside}
use Rattle.dfi_base.proofs.Names.{kin}
use Rattle.tac_ir.specs.declared.code.Code.{Code}
use Rattle.tac_ir.specs.declared.run.Entry.{Entry}
use Rattle.tac_ir.specs.Module.{Module}
use Rattle.tac_ir.specs.Layout.{memory_words}
use Rattle.tac_ir.specs.GoodForm.{GoodForm}
use Rattle.tac_thread.specs.Life.{instr_of}
use Rattle.tac_thread.specs.Flat.{flat_meaning}
use Rattle.path_law.specs.Standing.{FlatActivation, FlatLife}
use Rattle.path_law.specs.Begins.{root_stack}
use Rattle.path_law.specs.InPlace.{FlatLives}
use Rattle.tree_law.proofs.trees.Along.{tree_of}
use Rattle.tree_law.proofs.trees.Ancestors.{HaveParents, below_first, not_first, above, branches_of_one}
use Rattle.chain_law.specs.RunTree.{run_says, IsRunTree}
use Rattle.chain_law.specs.Frames.{AreStacked, branches_at, share_of, IsShareOf, AreShared, framed_of, AreApart, AreWithin}
use Rattle.chain_law.proofs.frames.Stacked.{ends_is}
use Rattle.chain_law.proofs.frames.Shares.{shares_along}

times : (k m s : ℕ) → k ≤ m → k * s ≤ m * s
times zero m s le = omega arith
times (suc k) zero s le = absurd (omega (arith, le))
times (suc k) (suc m) s le = (let rest = times k m s (omega (arith, le)) in let a : suc k * s ≡ k * s + s = omega arith in let b : suc m * s ≡ m * s + s = omega arith in omega (arith, rest, a, b))

-- One life.

-- the first word behind the frames is in the region
pub top_within : (c : Code) (lo hi : ℕ) (x : FlatActivation) (callers : List FlatActivation) → AreStacked c lo hi x callers → (lo ≤ x.stack.top) × (x.stack.top ≤ hi)
unfolding AreStacked
top_within c lo hi x [] h = (let a = h.0 in let b = h.2 in (omega (arith, a), omega (arith, a, b)))
top_within c lo hi x (y ∷ callers) h =
    let rest = (top_within c lo hi y callers h.4).0 in
    let a = h.0 in
    let b = h.1 in
    (omega (arith, rest, a, b), h.3)

-- and so is each frame
pub frame_within : (c : Code) (lo hi : ℕ) (x z : FlatActivation) (callers : List FlatActivation) → AreStacked c lo hi x callers → Contains (framed_of x callers) z → (lo ≤ z.stack.base) × (z.stack.top ≤ x.stack.top)
unfolding AreStacked
frame_within c lo hi x z [] h (k, within, same) = absurd (omega (arith, within))
frame_within c lo hi x z (y ∷ callers) h (zero, within, same) =
    let low = (top_within c lo hi y callers h.4).0 in
    let a = h.0 in
    let base : x.stack.base ≡ z.stack.base = ap (λ (w : FlatActivation). w.stack.base) same in
    let top : x.stack.top ≡ z.stack.top = ap (λ (w : FlatActivation). w.stack.top) same in
    (omega (arith, low, a, base), omega (arith, top))
frame_within c lo hi x z (y ∷ callers) h (suc k, within, same) =
    let rest = frame_within c lo hi y z callers h.4 (k, omega (arith, within), same) in
    let low = rest.0 in
    let up = rest.1 in
    let a = h.0 in
    let b = h.1 in
    (low, omega (arith, up, a, b))

-- The regions of all lives.

pub record HasSpace (c : Code) (l : FlatLife) : Type 0 where
  pub lo : ℕ
  pub hi : ℕ
  pub stacked : AreStacked c lo hi l.top l.callers

-- a branch's is in its parent's room
branch_in : (c : Code) (lo hi : ℕ) (p l : FlatLife) (i : ℕ) → AreStacked c lo hi p.top p.callers → IsShareOf c p i l
    → (p.top.stack.top ≤ p.top.stack.top + (i - 1) * share_of c p) × (p.top.stack.top + i * share_of c p ≤ hi)
branch_in c lo hi p l i stands s =
    let ends = ends_is c lo hi p.top p.callers stands in
    let last = ends.0 in
    let within = ends.1 in
    let high = times i (branches_at (instr_of c p.top)) (share_of c p) s.high in
    let room = mul-div-le (p.top.stack.«end» - p.top.stack.top) (branches_at (instr_of c p.top)) in
    (omega arith, omega (arith, within, last, high, room))

-- that of a thread below another is in the other's room, where they are not the same
pub record IsSpaceIn (c : Code) (a n lo hi top : ℕ) (l : FlatLife) : Type 0 where
  pub space : HasSpace c l
  pub low : lo ≤ space.lo
  pub high : space.hi ≤ hi
  pub behind : (a ≡ n) ⊎ (top ≤ space.lo)

pub space_below : (c : Code) (f : FlatLives) (base last : ℕ) → HaveParents f → AreShared c base last f → (a n lo hi : ℕ) (la l : FlatLife) → Below a n → f a ≡ Some la → AreStacked c lo hi la.top la.callers → f n ≡ Some l
    → IsSpaceIn c a n lo hi la.top.stack.top l
space_below c f base last parents shared a n lo hi la l (itself k same) at_a stands lives =
    let both : Some la ≡ Some l = sym at_a ∙ ap f (sym same) ∙ lives in
    let one : la ≡ l = cc in
    record { space = record { lo = lo; hi = hi; stacked = subst (λ (z : FlatLife). AreStacked c lo hi z.top z.callers) one stands }; low = omega arith; high = omega arith; behind = inl (sym same) }
space_below c f base last parents shared a n lo hi la l (branch k some below) at_a stands lives =
    let other = not_first f parents a k la at_a below in
    let h = parents k l lives other in
    let p = h.1.0 in
    let up = space_below c f base last parents shared a (k / 16) lo hi la p below at_a stands h.1.1 in
    let s = shared.branches k p l h.0 other lives h.1.1 in
    let into = branch_in c up.space.lo up.space.hi p l (k % 16) up.space.stacked s in
    let a0 = into.0 in
    let a1 = into.1 in
    let low = (top_within c up.space.lo up.space.hi p.top p.callers up.space.stacked).0 in
    let b0 = up.low in
    let b1 = up.high in
    record {
      space = record { lo = p.top.stack.top + (k % 16 - 1) * share_of c p; hi = p.top.stack.top + (k % 16) * share_of c p; stacked = s.stacked.stands };
      low = omega (arith, b0, low, a0);
      high = omega (arith, a1, b1);
      behind = inr (⊎_elim
          (λ (same : a ≡ k / 16).
          let both : Some la ≡ Some p = sym at_a ∙ ap f same ∙ h.1.1 in
          let one : la ≡ p = cc in
          let t : la.top.stack.top ≡ p.top.stack.top = ap (λ (z : FlatLife). z.top.stack.top) one in
          omega (arith, t, a0))
          (λ (t : la.top.stack.top ≤ up.space.lo). omega (arith, t, low, a0)) up.behind);
    }

module _ (c : Code) (f : FlatLives) (base last : ℕ) (parents : HaveParents f) (shared : AreShared c base last f) where
  -- the space of each thread that lives, between those of thread 1
  pub space_of : (n : ℕ) (l : FlatLife) → f n ≡ Some l → (r : FlatLife) × IsSpaceIn c 1 n base last r.top.stack.top l
  space_of n l lives =
      let below = below_first f parents n l lives in
      let root = above f parents 1 n l below (omega arith) lives in
      (root.life, space_below c f base last parents shared 1 n base last root.life l below root.lives (shared.root root.life root.lives).stands lives)

  pub within : AreWithin base last f
  within n l x lives listed =
      let s = (space_of n l lives).1 in
      let frame = frame_within c s.space.lo s.space.hi l.top x l.callers s.space.stacked listed in
      let top = (top_within c s.space.lo s.space.hi l.top l.callers s.space.stacked).1 in
      let a = s.low in
      let b = s.high in
      let p = frame.0 in
      let q = frame.1 in
      (omega (arith, a, p), omega (arith, b, top, q))

  -- frames of a thread stand behind those of the threads above it
  behind : (n k : ℕ) (l q : FlatLife) (x y : FlatActivation) → (n ≡ k → ⊥) → Below n k → f n ≡ Some l → f k ≡ Some q → Contains (framed_of l.top l.callers) x → Contains (framed_of q.top q.callers) y
      → x.stack.top ≤ y.stack.base
  behind n k l q x y other below lives_n lives_k in_l in_q =
      let mine = (space_of n l lives_n).1.space in
      let there = space_below c f base last parents shared n k mine.lo mine.hi l q below lives_n mine.stacked lives_k in
      let up = (frame_within c mine.lo mine.hi l.top x l.callers mine.stacked in_l).1 in
      let low = (frame_within c there.space.lo there.space.hi q.top y q.callers there.space.stacked in_q).0 in
      ⊎_elim (λ (same : n ≡ k). absurd (other same)) (λ (past : l.top.stack.top ≤ there.space.lo). omega (arith, up, past, low)) there.behind

  share : (a d : ℕ) (p z : FlatLife) → 1 ≤ a → 0 < d → d ≤ 15 → f a ≡ Some p → f (16 * a + d) ≡ Some z → IsShareOf c p d z
  share a d p z some low high parent lives =
      let up : a ≡ (16 * a + d) / 16 = omega (arith, high) in
      let place : (16 * a + d) % 16 ≡ d = omega (arith, high) in
      subst (λ w. IsShareOf c p w z) place (shared.branches (16 * a + d) p z (omega (arith, place, low)) (λ e. omega (arith, e, some)) lives (subst (λ w. f w ≡ Some p) up parent))

  -- those below two branches of one thread stand in two shares, in the order of the branches
  beside : (a i j n k : ℕ) (p u v l q : FlatLife) (x y : FlatActivation) → i < j → 1 ≤ a → 0 < i → i ≤ 15 → j ≤ 15 → f a ≡ Some p → f (16 * a + i) ≡ Some u → f (16 * a + j) ≡ Some v → Below (16 * a + i) n → Below (16 * a + j) k
      → f n ≡ Some l → f k ≡ Some q → Contains (framed_of l.top l.callers) x → Contains (framed_of q.top q.callers) y → x.stack.top ≤ y.stack.base
  beside a i j n k p u v l q x y less some li hi hj parent at_i at_j left right lives_n lives_k in_l in_q =
      let si = share a i p u some li hi parent at_i in
      let sj = share a j p v some (omega (arith, less)) hj parent at_j in
      let bi = space_below c f base last parents shared (16 * a + i) n (p.top.stack.top + (i - 1) * share_of c p) (p.top.stack.top + i * share_of c p) u l left at_i si.stacked.stands lives_n in
      let bj = space_below c f base last parents shared (16 * a + j) k (p.top.stack.top + (j - 1) * share_of c p) (p.top.stack.top + j * share_of c p) v q right at_j sj.stacked.stands lives_k in
      let up = (frame_within c bi.space.lo bi.space.hi l.top x l.callers bi.space.stacked in_l).1 in
      let top = (top_within c bi.space.lo bi.space.hi l.top l.callers bi.space.stacked).1 in
      let low = (frame_within c bj.space.lo bj.space.hi q.top y q.callers bj.space.stacked in_q).0 in
      let high = bi.high in
      let from = bj.low in
      let step = times i (j - 1) (share_of c p) (omega (arith, less)) in
      omega (arith, up, top, high, step, from, low)

  pub apart : AreApart f
  apart n k l q x y other lives_n lives_k in_l in_q = by (kin 1 n k (below_first f parents n l lives_n) (below_first f parents k q lives_k))
    where
      order : (a i j : ℕ) → (i ≡ j → ⊥) → 0 < i → i ≤ 15 → 0 < j → j ≤ 15 → Below (16 * a + i) n → Below (16 * a + j) k → (i < j) ⊎ (j < i) → (x.stack.top ≤ y.stack.base) ⊎ (y.stack.top ≤ x.stack.base)
      order a i j differ li hi lj hj left right way =
          let u = above f parents (16 * a + i) n l left (omega (arith, li)) lives_n in
          let v = above f parents (16 * a + j) k q right (omega (arith, lj)) lives_k in
          let two = branches_of_one f parents a i j u.life v.life differ li hi lj hj u.lives v.lives in
          ⊎_elim
          (λ (less : i < j). inl (beside a i j n k two.parent u.life v.life l q x y less two.some li hi hj two.lives u.lives v.lives left right lives_n lives_k in_l in_q))
          (λ (more : j < i). inr (beside a j i k n two.parent v.life u.life q l y x more two.some lj hj hi two.lives v.lives u.lives right left lives_k lives_n in_q in_l)) way

      one_first : (i j : ℕ) → (i ≡ j → ⊥) → (i < j) ⊎ (j < i)
      one_first zero zero differ = absurd (differ refl)
      one_first zero (suc j) differ = inl (omega arith)
      one_first (suc i) zero differ = inr (omega arith)
      one_first (suc i) (suc j) differ = ⊎_elim (λ (less : i < j). inl (omega (arith, less))) (λ (more : j < i). inr (omega (arith, more))) (one_first i j (λ same. differ (ap suc same)))

      by : Kin n k → (x.stack.top ≤ y.stack.base) ⊎ (y.stack.top ≤ x.stack.base)
      by (is_above below) = inl (behind n k l q x y other below lives_n lives_k in_l in_q)
      by (is_below below) = inr (behind k n q l y x (λ same. other (sym same)) below lives_k lives_n in_q in_l)
      by (are_beside a i j differ li hi lj hj left right) = order a i j differ li hi lj hj left right (one_first i j differ)

pub frames_apart : (m : Module) (input : List ℤ) → GoodForm m.code → (h : List Entry) (f : FlatLives) (d : Option ℕ) → IsRunTree m input h f d
    → AreShared m.code (root_stack m).top (memory_words m.size) f × AreWithin (root_stack m).top (memory_words m.size) f × AreApart f
frames_apart m input good h f d chain =
    let tree = tree_of flat_meaning m.code (root_stack m) (run_says m input) h f d chain in
    let shared = shares_along m input good h f d chain in
    (shared, within m.code f (root_stack m).top (memory_words m.size) tree.threads.parents shared, apart m.code f (root_stack m).top (memory_words m.size) tree.threads.parents shared)
