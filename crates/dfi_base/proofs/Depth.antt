-- How deep a thread is, by its name. (Exported.)
use Rattle.std.proofs.Common.{◌≡◌, ℕ, zero, suc, ◌+◌, ◌*◌, ◌/◌, ◌^◌, ◌≤◌, ◌<◌, Bool, true, false, refl, arith, sym, ◌∙◌, ap, subst, lit≤, ◌⊎◌, inl, inr}
use Rattle.std.specs.Prelude.{nat_lt, nat_le}
use Rattle.std.proofs.lemmas.Bool.{cases_eq, lt-ltb, leb-true, leb-false}
use Rattle.dfi_base.specs.Names.{Below, depth_within, depth_of}
use Rattle.dfi_base.specs.Names.Below.{itself, branch}
use Rattle.dfi_base.specs.Laws.{DepthIsByName}

abbrev pow16 : ℕ → ℕ
pow16 zero = 1
pow16 (suc d) = 16 * pow16 d

pow16-some : (d : ℕ) → 1 ≤ pow16 d
pow16-some zero = omega arith
pow16-some (suc d) = omega (arith, pow16-some d)

pow16-grows : (d e : ℕ) → d ≤ e → pow16 d ≤ pow16 e
pow16-grows d zero low = let none : d ≡ 0 = omega (arith, low) in subst (λ x. pow16 x ≤ 1) (sym none) (omega arith)
pow16-grows d (suc e) low = by (cases_eq d (suc e)) (pow16-grows d e)
  where
    by : (d ≡ suc e) ⊎ (d ≡ suc e → ⊥) → (d ≤ e → pow16 d ≤ pow16 e) → pow16 d ≤ pow16 (suc e)
    by (inl same) before = subst (λ x. pow16 d ≤ pow16 x) same (omega arith)
    by (inr other) before = let below = before (omega (arith, low, other)) in omega (arith, below)

lt-false : (a b : ℕ) → b ≤ a → nat_lt a b ≡ false
lt-false a b h = grind (arith, nat_lt)

le-true : (a b : ℕ) → a ≤ b → nat_le a b ≡ true
le-true a b h = grind (arith, nat_le)

le-false : (a b : ℕ) → b < a → nat_le a b ≡ false
le-false a b h = grind (arith, nat_le)

-- one generation more
step : (t n : ℕ) → 16 ≤ n → depth_within (suc t) n ≡ suc (depth_within t (n / 16))
step t n big = ap (λ b. elim b [ true ↦ 0 | false ↦ suc (depth_within t (n / 16)) ]) (lt-false n 16 big)

deep_enough : (t d n : ℕ) → d ≤ t → pow16 d ≤ n → d ≤ depth_within t n
deep_enough t zero n within low = omega arith
deep_enough zero (suc d) n within low = absurd (omega (arith, within))
deep_enough (suc t) (suc d) n within low =
    let deeper : d ≤ depth_within t (n / 16) = deep_enough t d (n / 16) (omega (arith, within)) (omega (arith, low)) in
    let here = step t n (omega (arith, low, pow16-some d)) in
    omega (arith, here, deeper)

not_deep : (t d n : ℕ) → n < pow16 (suc d) → depth_within t n ≤ d
not_deep zero d n high = omega arith
not_deep (suc t) d n high = by (nat_lt n 16) refl d high (λ e. not_deep t e (n / 16))
  where
    by : (b : Bool) → nat_lt n 16 ≡ b → (e : ℕ) → n < 16 * pow16 e → ((e : ℕ) → n / 16 < 16 * pow16 e → depth_within t (n / 16) ≤ e)
        → elim b [ true ↦ 0 | false ↦ suc (depth_within t (n / 16)) ] ≤ e
    by true is e high rest = omega arith
    by false is zero high rest = (let clash : true ≡ false = sym (lt-ltb n 16 (omega (arith, high))) ∙ is in absurd (cc))
    by false is (suc e) high rest = let deeper = rest e (omega (arith, high)) in omega (arith, deeper)

pub deep_is : (n : ℕ) → 2 ^ 56 ≤ n → nat_le 14 (depth_of n) ≡ true
deep_is n low = le-true 14 (depth_of n) (deep_enough 16 14 n (lit≤ tt) low)

pub not_deep_is : (n : ℕ) → n < 2 ^ 56 → nat_le 14 (depth_of n) ≡ false
not_deep_is n high = le-false 14 (depth_of n) (let most = not_deep 16 13 n high in omega (arith, most))

-- more turns count no more, for names that are small enough
same_depth : (t n : ℕ) → n < pow16 (suc t) → depth_within t n ≡ depth_within (suc t) n
same_depth zero n high = sym (ap (λ b. elim b [ true ↦ 0 | false ↦ suc (depth_within zero (n / 16)) ]) (lt-ltb n 16 (omega (arith, high))))
same_depth (suc t) n high = ap (λ d. elim (nat_lt n 16) [ true ↦ 0 | false ↦ suc d ]) (same_depth t (n / 16) (omega (arith, high)))

branch_depth : (n i : ℕ) → 0 < n → n < 2 ^ 64 → i ≤ 15 → depth_of (16 * n + i) ≡ suc (depth_of n)
branch_depth n i some small low =
    let up : (16 * n + i) / 16 ≡ n = omega (arith, low) in
    step 15 (16 * n + i) (omega (arith, some)) ∙ ap (λ x. suc (depth_within 15 x)) up ∙ ap suc (same_depth 15 n small)

-- the names that are so many generations below thread 1
record IsSpan (n d : ℕ) : Type 0 where
  low : pow16 d ≤ n
  high : n < 2 * pow16 d

span : (n : ℕ) → Below 1 n → (d : ℕ) × IsSpan n d
span n (itself k same) = (0, record { low = omega (arith, same); high = omega (arith, same) })
span n (branch k some up) =
    let s = span (k / 16) up in
    let low = s.1.low in
    let high = s.1.high in
    (suc s.0, record { low = omega (arith, low); high = omega (arith, high) })

live_name : (n : ℕ) → Below 1 n → depth_of n ≤ 14 → n < 2 ^ 57
live_name n below shallow = by (nat_le 15 s.0) refl
  where
    s : (d : ℕ) × IsSpan n d
    s = span n below

    by : (b : Bool) → nat_le 15 s.0 ≡ b → n < 2 ^ 57
    by true is =
        let far = leb-true 15 s.0 is in
        let most = pow16-grows 15 s.0 far in
        let from = s.1.low in
        let deep = deep_enough 16 15 n (lit≤ tt) (omega (arith, most, from)) in
        absurd (omega (arith, deep, shallow))
    by false is =
        let near = leb-false 15 s.0 is in
        let most = pow16-grows s.0 14 (omega (arith, near)) in
        let to = s.1.high in
        omega (arith, most, to)

pub depth_is_by_name : DepthIsByName
depth_is_by_name = record {
  branch = branch_depth;
  deep = λ n high. by n high (nat_le (2 ^ 56) n) refl;
  far = λ n low. deep_enough 16 14 n (lit≤ tt) low;
  small = live_name;
}
  where
    by : (n : ℕ) → 14 ≤ depth_of n → (b : Bool) → nat_le (2 ^ 56) n ≡ b → 2 ^ 56 ≤ n
    by n high true is = leb-true (2 ^ 56) n is
    by n high false is = let below = leb-false (2 ^ 56) n is in let most = not_deep 16 13 n below in absurd (omega (arith, high, most))
