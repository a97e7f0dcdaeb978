-- A pass has at most 15 live children, so a share of its parts is always left.
use Rattle.std.proofs.Common.{◌≡◌, ◌≢◌, inl, inr, ⊎_elim, ℕ, zero, suc, ◌+◌, ◌-◌, ◌*◌, ◌^◌, ◌<◌, ◌≤◌, eq-eqb, ne_eqb, cond, List, [], ◌∷◌, length, refl, sym, ap, ◌∙◌, subst, arith}
use mathlib.Core.Logic.{dite}
use native.Mathlib.Decide.{ℕ_discrete}
use Rattle.std.proofs.Math.Nat.{pow-suc}
use Rattle.std.proofs.lemmas.Nat.{pow_pos}
use Rattle.std.proofs.lemmas.Bool.{cases_lt}
use Rattle.dfi_base.specs.Names.{depth_of}
use Rattle.dfi_base.proofs.Depth.{depth_is_by_name}
use Rattle.stripe_rule.specs.Kids.{whole_of, share_of, Has, remove, AreKids, IsShared}

-- taking out

pub removed_same : (x : ℕ) (y : ℕ) (l : List ℕ) → x ≡ y → remove x (y ∷ l) ≡ remove x l
removed_same x y l is = ap (λ b. cond b (remove x l) (y ∷ remove x l)) (eq-eqb x y is)

pub removed_other : (x : ℕ) (y : ℕ) (l : List ℕ) → x ≢ y → remove x (y ∷ l) ≡ y ∷ remove x l
removed_other x y l ne = ap (λ b. cond b (remove x l) (y ∷ remove x l)) (ne_eqb x y ne)

pub removed_has : (x y : ℕ) (l : List ℕ) → Has x (remove y l) → Has x l
removed_has x y [] h = absurd h
removed_has x y (z ∷ l) h = dite (ℕ_discrete y z)
    (λ is. inr (removed_has x y l (subst (Has x) (removed_same y z l is) h)))
    (λ ne. ⊎_elim (λ (e : x ≡ z). inl e) (λ (r : Has x (remove y l)). inr (removed_has x y l r)) (subst (Has x) (removed_other y z l ne) h))

removed_none : (x : ℕ) (l : List ℕ) → ¬ (Has x l) → remove x l ≡ l
removed_none x [] none = refl
removed_none x (y ∷ l) none = removed_other x y l (λ e. none (inl e)) ∙ ap (λ t. y ∷ t) (removed_none x l (λ h. none (inr h)))

pub kids_removed : (n x : ℕ) (l : List ℕ) → AreKids n l → AreKids n (remove x l)
kids_removed n x [] are = tt
kids_removed n x (y ∷ l) are = dite (ℕ_discrete x y)
    (λ is. subst (AreKids n) (sym (removed_same x y l is)) (kids_removed n x l are.3))
    (λ ne. subst (AreKids n) (sym (removed_other x y l ne)) (are.0, are.1, (λ h. are.2 (removed_has y x l h)), kids_removed n x l are.3))

-- a child that is taken out is one less
pub one_less : (n x : ℕ) (l : List ℕ) → AreKids n l → Has x l → length (remove x l) + 1 ≡ length l
one_less n x [] are has = absurd has
one_less n x (y ∷ l) are has = dite (ℕ_discrete x y)
    (λ is. let rest = ap length (removed_same x y l is ∙ removed_none x l (λ h. are.2 (subst (λ z. Has z l) is h))) in omega (arith, rest))
    (λ ne. let rest = one_less n x l are.3 (⊎_elim (λ (e : x ≡ y). absurd (ne e)) (λ (r : Has x l). r) has) in let here = ap length (removed_other x y l ne) in omega (arith, rest, here))

-- counting

abbrev AreWithin : ℕ → ℕ → List ℕ → Type 0
AreWithin from n [] = Unit {0}
AreWithin from n (x ∷ l) = (from < x) × (x ≤ from + n) × ¬ (Has x l) × AreWithin from n l

at_most_less : (from n x : ℕ) (l : List ℕ) → AreWithin from n l → length l ≤ length (remove x l) + 1
at_most_less from n x [] are = omega arith
at_most_less from n x (y ∷ l) are = dite (ℕ_discrete x y)
    (λ is. let rest = ap length (removed_same x y l is ∙ removed_none x l (λ h. are.2 (subst (λ z. Has z l) is h))) in omega (arith, rest))
    (λ ne. let rest = at_most_less from n x l are.3 in let here = ap length (removed_other x y l ne) in omega (arith, rest, here))

within_less : (from n : ℕ) (l : List ℕ) → AreWithin from (suc n) l → AreWithin from n (remove (from + suc n) l)
within_less from n [] are = tt
within_less from n (y ∷ l) are = dite (ℕ_discrete (from + suc n) y)
    (λ is. subst (AreWithin from n) (sym (removed_same (from + suc n) y l is)) (within_less from n l are.3))
    (λ ne. subst (AreWithin from n) (sym (removed_other (from + suc n) y l ne))
    (are.0, (let top = are.1 in omega (arith, top, ne)), (λ h. are.2 (removed_has y (from + suc n) l h)), within_less from n l are.3))

few_within : (from n : ℕ) (l : List ℕ) → AreWithin from n l → length l ≤ n
few_within from zero [] are = omega arith
few_within from zero (x ∷ l) are = absurd (let low = are.0 in let high = are.1 in omega (arith, low, high))
few_within from (suc n) l are =
    let rest = few_within from n (remove (from + suc n) l) (within_less from n l are) in
    let less = at_most_less from (suc n) (from + suc n) l are in
    omega (arith, rest, less)

are_within : (n : ℕ) (kids : List ℕ) → AreKids n kids → AreWithin (n * 16) 15 kids
are_within n [] are = tt
are_within n (x ∷ kids) are = (are.0, (let high = are.1 in omega (arith, high)), are.2, are_within n kids are.3)

pub few_kids : (n : ℕ) (kids : List ℕ) → AreKids n kids → length kids ≤ 15
few_kids n kids are = few_within (n * 16) 15 kids (are_within n kids are)

-- parts

pow_next : (a b : ℕ) → b ≡ suc a → 2 ^ b ≡ 2 ^ a * 2
pow_next a b is = ap (λ e. 2 ^ e) is ∙ pow-suc 2 a

pow_more : (a : ℕ) → 2 ^ (a + 4) ≡ 2 ^ a * 16
pow_more a =
    let three = pow_next (a + 3) (a + 4) (omega arith) in
    let two = pow_next (a + 2) (a + 3) (omega arith) in
    let one = pow_next (a + 1) (a + 2) (omega arith) in
    let none = pow_next a (a + 1) (omega arith) in
    omega (arith, three, two, one, none)

sixteen : (d : ℕ) → d < 14 → 2 ^ (57 - 4 * d) ≡ 2 ^ (53 - 4 * d) * 16
sixteen d low =
    let is : 57 - 4 * d ≡ (53 - 4 * d) + 4 = omega (arith, low) in
    ap (λ e. 2 ^ e) is ∙ pow_more (53 - 4 * d)

pub whole_is : (n : ℕ) → depth_of n < 14 → whole_of n ≡ share_of n * 16
whole_is n shallow = sixteen (depth_of n) shallow

pub some_share : (n : ℕ) → 0 < share_of n
some_share n = pow_pos (53 - 4 * depth_of n)

-- a name that is not too deep is small
pub small_name : (n : ℕ) → depth_of n < 14 → n < 2 ^ 56
small_name n shallow = elim (cases_lt n (2 ^ 56)) [
  | inl low ↦ low
  | inr high ↦ absurd (let deep = depth_is_by_name.far n high in omega (arith, deep, shallow))
]

-- what a branch begins with is the share
pub branch_whole : (n name : ℕ) → 0 < n → depth_of n < 14 → n * 16 < name → name < n * 16 + 16 → whole_of name ≡ share_of n
branch_whole n name some shallow low high =
    let i : ℕ = name - n * 16 in
    let is : 16 * n + i ≡ name = omega (arith, low, high) in
    let small = small_name n shallow in
    let deeper : depth_of name ≡ suc (depth_of n) = ap depth_of (sym is) ∙ depth_is_by_name.branch n i some (omega (arith, small)) (omega (arith, low, high)) in
    ap (λ d. 2 ^ (57 - 4 * d)) deeper ∙ ap (λ e. 2 ^ e) (exponent (depth_of n))
  where
    exponent : (d : ℕ) → 57 - 4 * suc d ≡ 53 - 4 * d
    exponent d = omega arith

-- where a pass is cut in two, a share is left
pub shares_left : (n parts : ℕ) (kids : List ℕ) → depth_of n < 14 → 0 < parts → IsShared n parts kids → length kids < 15 → share_of n < parts
shares_left n parts kids shallow live is few =
    let all = is.rest live in
    let whole = whole_is n shallow in
    let some = some_share n in
    let most = at_most (length kids) (share_of n) few in
    omega (arith, all, whole, some, most)
  where
    at_most : (k s : ℕ) → k < 15 → k * s ≤ 14 * s
    at_most k s few = grind arith

pub share_cut : (parts s k w : ℕ) → s < parts → parts + k * s ≡ w → (parts - s) + suc k * s ≡ w
share_cut parts s k w less all = grind arith

pub share_back : (parts theirs s k l w : ℕ) → k + 1 ≡ l → theirs ≡ s → parts + l * s ≡ w → parts + theirs + k * s ≡ w
share_back parts theirs s k l w more same all =
    let one : (k + 1) * s ≡ k * s + s = grind arith in
    let here : (k + 1) * s ≡ l * s = ap (λ n. n * s) more in
    omega (arith, one, here, same, all)

pub kid_range : (n x : ℕ) (kids : List ℕ) → AreKids n kids → Has x kids → (n * 16 < x) × (x < n * 16 + 16)
kid_range n x [] are has = absurd has
kid_range n x (y ∷ kids) are has = ⊎_elim
    (λ (is : x ≡ y). ((let low = are.0 in omega (arith, low, is)), let high = are.1 in omega (arith, high, is)))
    (λ (r : Has x kids). kid_range n x kids are.3 r) has
