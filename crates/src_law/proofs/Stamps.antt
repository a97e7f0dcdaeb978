-- Lists of stamps, the oldest first, put before a history, which has the newest first; and whose they are.
use Rattle.std.proofs.Common.{◌≡◌, ℕ, suc, ◌+◌, ◌*◌, ◌/◌, ◌%◌, ◌≤◌, ◌<◌, List, [], ◌∷◌, ◌++◌, reverse, refl, sym, ap, ◌∙◌, subst, ◌⊎◌, inl, inr, arith}
use Rattle.std.proofs.lemmas.List.{reverse-append, append_assoc}
use Rattle.dfi_base.specs.Names.{Below, IsApart}
use Rattle.dfi_base.specs.Names.Below.{itself, branch}
use Rattle.dfi_base.specs.Lives.{Kind}
use Rattle.dfi_base.specs.Joined.{IsJoined}
use Rattle.dfi_base.proofs.Names.{below_siblings}
use Rattle.obj_mem.specs.declared.event.Stamp.{Stamp}
use Rattle.src_law.specs.Shuffles.{IsShuffle, both_end, left_first, right_first}

pub rev_cons : {A : Type 0} (x : A) (u h : List A) → reverse (x ∷ u) ++ h ≡ reverse u ++ x ∷ h
rev_cons x u h = ap (λ z. z ++ h) (reverse-append (x ∷ []) u) ∙ append_assoc (reverse u) (x ∷ []) h

pub rev_both : {A : Type 0} (s t h : List A) → reverse (s ++ t) ++ h ≡ reverse t ++ (reverse s ++ h)
rev_both s t h = ap (λ z. z ++ h) (reverse-append s t) ∙ append_assoc (reverse t) (reverse s) h

-- each stamp is by thread n or one below it
pub data AreBelow (n : ℕ) : List Stamp → Type 0 where
  none_below : AreBelow n []
  one_below : (x : Stamp) (u : List Stamp) → Below n x.name.0 → AreBelow n u → AreBelow n (x ∷ u)

-- each is by branch i of thread n, or a later branch, or one below it
pub record IsBeyond (n i m : ℕ) : Type 0 where
  pub at : ℕ
  pub from : i ≤ at
  pub few : at ≤ 15
  pub below : Below (16 * n + at) m

pub data AreBeyond (n i : ℕ) : List Stamp → Type 0 where
  none_beyond : AreBeyond n i []
  one_beyond : (x : Stamp) (u : List Stamp) → IsBeyond n i x.name.0 → AreBeyond n i u → AreBeyond n i (x ∷ u)

pub below_both : (n : ℕ) (s t : List Stamp) → AreBelow n s → AreBelow n t → AreBelow n (s ++ t)
below_both n s t none_below more = more
below_both n s t (one_below x u b rest) more = one_below x (u ++ t) b (below_both n u t rest more)

pub beyond_shuffle : (n i : ℕ) (s t u : List Stamp) → IsShuffle s t u → i ≤ 15 → AreBelow (16 * n + i) s → AreBeyond n (suc i) t → AreBeyond n i u
beyond_shuffle n i s t u both_end few below beyond = none_beyond
beyond_shuffle n i s t u (left_first x xs ys zs more) few (one_below _ _ b rest) beyond =
    one_beyond x zs (record { at = i; from = omega arith; few = few; below = b }) (beyond_shuffle n i xs ys zs more few rest beyond)
beyond_shuffle n i s t u (right_first y xs ys zs more) few below (one_beyond _ _ b rest) =
    one_beyond y zs (record { at = b.at; from = (let low = b.from in omega (arith, low)); few = b.few; below = b.below }) (beyond_shuffle n i xs ys zs more few below rest)

-- branch i and those below it, beside those of later branches, joined behind what both go on from
pub joined_by : {S W : Type 0} (k : Kind Stamp S W) → ((x : Stamp) → k.name_of x ≡ x.name.0) → (n i : ℕ) (tail w r p s t u : List Stamp) → 0 < i → i ≤ 15
    → IsShuffle s t u → AreBelow (16 * n + i) s → AreBeyond n (suc i) t → IsJoined k (16 * n + i) tail w r p
    → IsJoined k (16 * n + i) tail (reverse u ++ w) (reverse t ++ r) (reverse s ++ p)
joined_by k names n i tail w r p s t u low few both_end below beyond j = j
joined_by k names n i tail w r p s t u low few (left_first x xs ys zs more) (one_below _ _ b rest) beyond j =
    subst (λ z. IsJoined k (16 * n + i) tail z (reverse ys ++ r) (reverse (x ∷ xs) ++ p)) (sym (rev_cons x zs w))
    (subst (λ z. IsJoined k (16 * n + i) tail (reverse zs ++ x ∷ w) (reverse ys ++ r) z) (sym (rev_cons x xs p))
    (joined_by k names n i tail (x ∷ w) r (x ∷ p) xs ys zs low few more rest beyond (IsJoined.child x w r p (subst (Below (16 * n + i)) (sym (names x)) b) j)))
joined_by k names n i tail w r p s t u low few (right_first y xs ys zs more) below (one_beyond _ _ b rest) j =
    subst (λ z. IsJoined k (16 * n + i) tail z (reverse (y ∷ ys) ++ r) (reverse xs ++ p)) (sym (rev_cons y zs w))
    (subst (λ z. IsJoined k (16 * n + i) tail (reverse zs ++ y ∷ w) z (reverse xs ++ p)) (sym (rev_cons y ys r))
    (joined_by k names n i tail (y ∷ w) (y ∷ r) p xs ys zs low few more below rest (IsJoined.other y w r p away j)))
  where
    away : IsApart (16 * n + i) (k.name_of y)
    away =
        let from = b.from in
        below_siblings n i b.at (16 * n + i) (k.name_of y) (λ same. omega (arith, same, from)) low few (omega (arith, from)) b.few (itself (16 * n + i) refl) (subst (Below (16 * n + b.at)) (sym (names y)) b.below)

-- who is below a thread is it, or below one of its branches
pub below_branch : (n q : ℕ) → Below n q → (q ≡ n) ⊎ IsBeyond n 1 q
below_branch n q (itself k same) = inl same
below_branch n q (branch k some up) = by (below_branch n (k / 16) up)
  where
    by : (k / 16 ≡ n) ⊎ IsBeyond n 1 (k / 16) → (k ≡ n) ⊎ IsBeyond n 1 k
    by (inl same) = inr (record { at = k % 16; from = some; few = omega arith; below = itself k (omega (arith, same)) })
    by (inr b) = inr (record { at = b.at; from = b.from; few = b.few; below = branch k some b.below })

-- nobody is below two branches of one thread
pub not_both : (n i j q : ℕ) → (i ≡ j → ⊥) → 0 < i → i ≤ 15 → 0 < j → j ≤ 15 → Below (16 * n + i) q → Below (16 * n + j) q → ⊥
not_both n i j q differ li hi lj hj left right = (below_siblings n i j q q differ li hi lj hj left right).below (itself q refl)
