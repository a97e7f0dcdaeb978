-- Who lives above and beside a thread that lives.
use Rattle.std.proofs.Common.{◌≡◌, ℕ, zero, suc, ◌+◌, ◌*◌, ◌/◌, ◌<◌, ◌≤◌, ◌⊎◌, inl, inr, ⊎_elim, true, Some, arith, sym, ◌∙◌, ap, subst}
use Rattle.std.proofs.lemmas.Bool.{cases_eq}
use Rattle.dfi_base.specs.Names.{Below}
use Rattle.dfi_base.specs.Names.Below.{itself, branch}
use Rattle.dfi_base.proofs.Names.{low_below}
use Rattle.tac_thread.specs.Life.{Life}
use Rattle.tac_thread.specs.Threads.{Lives, is_waiting, HasParent}

-- each but thread 1 is a branch of a thread that waits
abbrev pub HaveParents : {V S : Type 0} → Lives V S → Type 0
HaveParents {V} {S} f = (n : ℕ) (l : Life V S) → f n ≡ Some l → (n ≡ 1 → ⊥) → HasParent f n

pub zero_is_none : {V S : Type 0} → (f : Lives V S) → HaveParents f → (l : Life V S) → f 0 ≡ Some l → ⊥
zero_is_none f parents l lives = (let h = (parents 0 l lives (λ e. omega (arith, e))).0 in omega (arith, h))

below_within : {V S : Type 0} → (fuel : ℕ) (f : Lives V S) → HaveParents f → (n : ℕ) (l : Life V S) → n < fuel → f n ≡ Some l → Below 1 n
below_within zero f parents n l small lives = absurd (omega (arith, small))
below_within {V} {S} (suc fuel) f parents n l small lives = ⊎_elim (λ (one : n ≡ 1). itself n one) (λ (other : n ≡ 1 → ⊥). by other (λ p less there. below_within fuel f parents (n / 16) p less there)) (cases_eq n 1)
  where
    by : (n ≡ 1 → ⊥) → ((p : Life V S) → n / 16 < fuel → f (n / 16) ≡ Some p → Below 1 (n / 16)) → Below 1 n
    by other rec =
        let h = parents n l lives other in
        let some = h.0 in
        branch n some (rec h.1.0 (omega (arith, some, small)) h.1.1)

-- each thread that lives is below thread 1
pub below_first : {V S : Type 0} → (f : Lives V S) → HaveParents f → (n : ℕ) (l : Life V S) → f n ≡ Some l → Below 1 n
below_first f parents n l lives = below_within (suc n) f parents n l (omega arith) lives

-- who is above a thread that lives is no parent of thread 1
pub not_first : {V S : Type 0} → (f : Lives V S) → HaveParents f → (a n : ℕ) (la : Life V S) → f a ≡ Some la → Below a (n / 16) → n ≡ 1 → ⊥
not_first {V} {S} f parents a n la lives below one =
    let low = low_below a (n / 16) below in
    zero_is_none f parents la (subst (λ k. f k ≡ Some la) (omega (arith, low, one)) lives)

-- an ancestor lives, and waits
pub record IsAbove {V S : Type 0} (f : Lives V S) (a n : ℕ) : Type 0 where
  pub life : Life V S
  pub lives : f a ≡ Some life
  pub waits : (a ≡ n) ⊎ (is_waiting life.stage ≡ true)

-- a thread above one that lives, but for thread 0
pub above : {V S : Type 0} → (f : Lives V S) → HaveParents f → (a n : ℕ) (l : Life V S) → Below a n → 1 ≤ a → f n ≡ Some l → IsAbove f a n
above f parents a n l (itself k same) some lives = record { life = l; lives = ap f (sym same) ∙ lives; waits = inl (sym same) }
above {V} {S} f parents a n l (branch k low below) some lives =
    let least = low_below a (k / 16) below in
    let h = parents k l lives (λ e. omega (arith, e, least, some)) in
    let up = above f parents a (k / 16) h.1.0 below some h.1.1 in
    record { life = up.life; lives = up.lives; waits = inr (waiting up.life up.lives up.waits h.1.0 h.1.1 h.1.2) }
  where
    waiting : (u : Life V S) → f a ≡ Some u → (a ≡ n / 16) ⊎ (is_waiting u.stage ≡ true) → (p : Life V S) → f (n / 16) ≡ Some p → is_waiting p.stage ≡ true → is_waiting u.stage ≡ true
    waiting u at_a (inr waits) p at_p waiting_p = waits
    waiting u at_a (inl same) p at_p waiting_p =
        let both : Some p ≡ Some u = sym at_p ∙ ap f (sym same) ∙ at_a in
        let one : p ≡ u = cc in
        ap (λ (z : Life V S). is_waiting z.stage) (sym one) ∙ waiting_p

-- Two branches of a thread that live: it lives, and neither is thread 1.
pub record AreBranchesOf {V S : Type 0} (f : Lives V S) (a i j : ℕ) : Type 0 where
  pub parent : Life V S
  pub lives : f a ≡ Some parent
  pub some : 1 ≤ a

pub branches_of_one : {V S : Type 0} → (f : Lives V S) → HaveParents f → (a i j : ℕ) (x y : Life V S) → (i ≡ j → ⊥) → 0 < i → i ≤ 15 → 0 < j → j ≤ 15 → f (16 * a + i) ≡ Some x → f (16 * a + j) ≡ Some y → AreBranchesOf f a i j
branches_of_one {V} {S} f parents a i j x y differ li hi lj hj left right = by (cases_eq a 0)
  where
    parent_of : (d : ℕ) (z : Life V S) → d ≤ 15 → f (16 * a + d) ≡ Some z → (16 * a + d ≡ 1 → ⊥) → (p : Life V S) × (f a ≡ Some p)
    parent_of d z high lives other =
        let h = parents (16 * a + d) z lives other in
        let up : (16 * a + d) / 16 ≡ a = omega (arith, high) in
        (h.1.0, subst (λ k. f k ≡ Some h.1.0) up h.1.1)

    nobody : a ≡ 0 → (i ≡ 1) ⊎ (i ≡ 1 → ⊥) → ⊥
    nobody none (inl one) =
        let p = parent_of j y hj right (λ e. differ (omega (arith, e, one, none))) in
        zero_is_none f parents p.0 (subst (λ k. f k ≡ Some p.0) none p.1)
    nobody none (inr other) =
        let p = parent_of i x hi left (λ e. other (omega (arith, e, none))) in
        zero_is_none f parents p.0 (subst (λ k. f k ≡ Some p.0) none p.1)

    by : (a ≡ 0) ⊎ (a ≡ 0 → ⊥) → AreBranchesOf f a i j
    by (inl none) = absurd (nobody none (cases_eq i 1))
    by (inr some) = (let p = parent_of i x hi left (λ e. omega (arith, e, some)) in record { parent = p.0; lives = p.1; some = omega (arith, some) })
