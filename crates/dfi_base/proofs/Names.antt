-- Who is below whom. (Exported.)
use Rattle.std.proofs.Common.{◌≡◌, ℕ, ◌+◌, ◌*◌, ◌/◌, ◌%◌, ◌≤◌, ◌<◌, ◌⊎◌, inl, inr, ⊎_elim, refl, arith, sym, ◌∙◌, subst}
use Rattle.std.proofs.lemmas.Bool.{cases_eq}
use Rattle.dfi_base.specs.Names.{Below, IsApart, Kin}
use Rattle.dfi_base.specs.Names.Below.{itself, branch}
use Rattle.dfi_base.specs.Names.Kin.{is_above, is_below, are_beside}

pub low_below : (q n : ℕ) → Below q n → q ≤ n
low_below q n (itself k same) = omega (arith, same)
low_below q n (branch k some below) = let low = low_below q (k / 16) below in omega (arith, low)

pub below_below : (q m n : ℕ) → Below q m → Below m n → Below q n
below_below q m n a (itself k same) = subst (Below q) (sym same) a
below_below q m n a (branch k some below) = branch k some (below_below q m (k / 16) a below)

-- branch i of a thread is below it
pub branch_below : (n i : ℕ) → 0 < i → i ≤ 15 → Below n (16 * n + i)
branch_below n i low high = branch (16 * n + i) (omega arith) (itself ((16 * n + i) / 16) (omega arith))

-- whose branch is q or below it, is so too, but where the branch is q
pub parent_below : (q n i : ℕ) → 0 < i → i ≤ 15 → (16 * n + i ≡ q → ⊥) → Below q (16 * n + i) → Below q n
parent_below q n i low high never b = go (16 * n + i) refl b
  where
    go : (j : ℕ) → j ≡ 16 * n + i → Below q j → Below q n
    go j is (itself k same) = absurd (never (sym is ∙ same))
    go j is (branch k some below) = subst (Below q) (omega (arith, is)) below

-- the branches of one that is apart from q are
pub apart_branch : (q n i : ℕ) → 0 < i → i ≤ 15 → IsApart q n → IsApart q (16 * n + i)
apart_branch q n i low high apart = record {
  below = λ b. apart.below (parent_below q n i low high (λ same. apart.above (subst (Below n) same (branch_below n i low high))) b);
  above = λ b. apart.above (below_below n (16 * n + i) q (branch_below n i low high) b);
}

-- and so is each one below it
pub apart_below : (q p n : ℕ) → IsApart q p → Below p n → IsApart q n
apart_below q p n apart (itself k same) = subst (IsApart q) (sym same) apart
apart_below q p n apart (branch k some up) =
    let rest = apart_below q p (k / 16) apart up in
    record {
      below = λ b. go k refl b rest;
      above = λ b. apart.above (below_below p k q (branch k some up) b);
    }
  where
    go : (j : ℕ) → j ≡ k → Below q j → IsApart q (k / 16) → ⊥
    go j is (itself i same) rest = apart.above (subst (Below p) (sym is ∙ same) (branch k some up))
    go j is (branch i more b) rest = rest.below (subst (λ x. Below q (x / 16)) is b)

apart_back : (q n : ℕ) → IsApart q n → IsApart n q
apart_back q n apart = record { below = apart.above; above = apart.below }

-- two branches of one thread are apart
pub siblings : (p i j : ℕ) → (i ≡ j → ⊥) → 0 < i → i ≤ 15 → 0 < j → j ≤ 15 → IsApart (16 * p + i) (16 * p + j)
siblings p i j differ li hi lj hj = record {
  below = λ b. let up = parent_below (16 * p + i) p j lj hj (λ same. differ (omega (arith, same))) b in let low = low_below (16 * p + i) p up in omega (arith, low, li);
  above = λ b. let up = parent_below (16 * p + j) p i li hi (λ same. differ (omega (arith, same))) b in let low = low_below (16 * p + j) p up in omega (arith, low, lj);
}

-- and so are two threads below them
pub below_siblings : (p i j n m : ℕ) → (i ≡ j → ⊥) → 0 < i → i ≤ 15 → 0 < j → j ≤ 15 → Below (16 * p + i) n → Below (16 * p + j) m → IsApart n m
below_siblings p i j n m differ li hi lj hj left right =
    apart_below n (16 * p + j) m (apart_back (16 * p + j) n (apart_below (16 * p + j) (16 * p + i) n (siblings p j i (λ same. differ (sym same)) lj hj li hi) left)) right

-- who is below a thread is it, or below one of its branches
split : (a n : ℕ) → Below a n → (a ≡ n) ⊎ ((j : ℕ) × (0 < j) × (j ≤ 15) × Below (16 * a + j) n)
split a n (itself k same) = inl (sym same)
split a n (branch k some up) =
    ⊎_elim
    (λ (same : a ≡ k / 16).
    let name : k ≡ 16 * a + k % 16 = omega (arith, same) in
    inr (k % 16, some, omega arith, itself k name))
    (λ (more : (j : ℕ) × (0 < j) × (j ≤ 15) × Below (16 * a + j) (k / 16)). inr (more.0, more.1, more.2, branch k some more.3))
    (split a (k / 16) up)

-- two threads below one are kin
pub kin : (r n m : ℕ) → Below r n → Below r m → Kin n m
kin r n m (itself k same) right = is_above (subst (λ x. Below x m) (sym same) right)
kin r n m (branch k some up) right = by (kin r (k / 16) m up right)
  where
    place : (j : ℕ) → 0 < j → j ≤ 15 → Below (16 * (k / 16) + j) m → (k % 16 ≡ j) ⊎ (k % 16 ≡ j → ⊥) → Kin k m
    place j low high there (inl same) =
        let name : 16 * (k / 16) + j ≡ k = omega (arith, same) in
        is_above (subst (λ x. Below x m) name there)
    place j low high there (inr differ) =
        are_beside (k / 16) (k % 16) j differ some (omega arith) low high (itself k (omega arith)) there

    by : Kin (k / 16) m → Kin k m
    by (is_above there) =
        ⊎_elim
        (λ (same : k / 16 ≡ m). is_below (branch k some (itself (k / 16) same)))
        (λ (more : (j : ℕ) × (0 < j) × (j ≤ 15) × Below (16 * (k / 16) + j) m). place more.0 more.1 more.2 more.3 (cases_eq (k % 16) more.0))
        (split (k / 16) m there)
    by (is_below there) = is_below (branch k some there)
    by (are_beside p i j differ li hi lj hj left there) = are_beside p i j differ li hi lj hj (branch k some left) there
