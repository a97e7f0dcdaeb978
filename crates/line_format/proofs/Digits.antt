-- The digits of a number of a range: a digit may come exactly where some number of the range goes on so.
use Rattle.std.proofs.Common.{◌≡◌, ℕ, zero, suc, ◌+◌, ◌-◌, ◌*◌, ◌/◌, ◌%◌, ◌<◌, ◌≤◌, ◌⊎◌, inl, inr, Bool, true, false, ◌&&◌, List, [], ◌∷◌, ◌++◌, length, Option, Some, None, refl, sym, ap, subst, ◌∙◌, append_assoc, arith}
use Rattle.std.specs.Prelude.{nat_le, nat_eq, nat_lt, if◌then◌else◌}
use Rattle.std.proofs.lemmas.Bool.{leb-true, leb-false, le-leb, lt-leb, eqb-true, eq-eqb, lt-ltb, cases_lt}
use Rattle.line_format.specs.tools.Format.{Next, more, last, Format, give, byte, chain, loop, Loop, again, stop, Has, read}
use Rattle.line_format.specs.tools.Number.{is_digit, meets, can, digit_after, first_digit, ended, next_digit, number}
use Rattle.line_format.proofs.Laws.{Completes, Law}
use Rattle.line_format.proofs.Formats.{some_is, none_some, more_last, last_is, Byte, Good, GoodTurns, exact}

pub false_true : {B : Type 0} → false ≡ true → B
false_true e = absurd (subst (λ b. elim b as (λ p. Type 0) [ true ↦ ⊥ | false ↦ Unit {0} ]) e tt)

pub more_is : {X A : Type 0} (x : X) {y : X} → ◌≡◌ {A = Next X A} (more x) (more y) → x ≡ y
more_is {X} x e = ap (λ v. elim v as (λ p. X) [ more z ↦ z | last c ↦ x ]) e

-- behind the digits of v, these digits make m
pub data Goes : ℕ → List ℕ → ℕ → Type 0 where
  here : {v : ℕ} → Goes v [] v
  on : {v d c m : ℕ} {ds : List ℕ} → d < 10 → c ≡ 48 + d → Goes (v * 10 + d) ds m → Goes v (c ∷ ds) m

pub goes_le : {v m : ℕ} {ds : List ℕ} → Goes v ds m → v ≤ m
goes_le here = omega arith
goes_le (on {v = v} {m = m} small is g) = omega (arith, goes_le g)

pub goes_push : {v m d : ℕ} {ds : List ℕ} → d < 10 → Goes v ds m → Goes v (ds ++ (48 + d) ∷ []) (m * 10 + d)
goes_push small here = on small refl here
goes_push small (on less is g) = on less is (goes_push small g)

abbrev pub Spelled : ℕ → Type 0
Spelled m = (d : ℕ) × (ds : List ℕ) × (d < 10) × (0 < d) × Goes d ds m

spelled_by : (n m : ℕ) → m < n → 0 < m → (m < 10) ⊎ (10 ≤ m) → ((k : ℕ) → k < m → 0 < k → Spelled k) → Spelled m
spelled_by n m less some (inl h) go = (m, [], h, some, here)
spelled_by n m less some (inr h) go =
    let (d, ds, small, lead, g) = go (m / 10) (omega arith) (omega arith) in
    let same : m / 10 * 10 + m % 10 ≡ m = omega arith in
    (d, ds ++ (48 + m % 10) ∷ [], small, lead, subst (λ z. Goes d (ds ++ (48 + m % 10) ∷ []) z) same (goes_push (omega arith) g))

spelled_in : (n m : ℕ) → m < n → 0 < m → Spelled m
spelled_in zero m less some = absurd (omega arith)
spelled_in (suc n) m less some = spelled_by (suc n) m less some (cases_lt m 10) (λ k h p. spelled_in n k (omega arith) p)

pub spelled : (m : ℕ) → 0 < m → Spelled m
spelled m some = spelled_in (suc m) m (omega arith) some

module _ (lo hi : ℕ) where
  pub meets_step : (n a b : ℕ) (x y : Bool) → nat_le a hi ≡ x → nat_le lo b ≡ y
      → meets lo hi (suc n) a b ≡ elim x as (λ p. Bool) [ false ↦ false | true ↦ elim y as (λ p. Bool) [ true ↦ true | false ↦ meets lo hi n (a * 10) (b * 10 + 9) ] ]
  unfolding meets
  meets_step n a b x y p q =
      subst (λ z. meets lo hi (suc n) a b ≡ elim z as (λ p. Bool) [ false ↦ false | true ↦ elim y as (λ p. Bool) [ true ↦ true | false ↦ meets lo hi n (a * 10) (b * 10 + 9) ] ]) p
      (subst (λ z. meets lo hi (suc n) a b ≡ elim (nat_le a hi) as (λ p. Bool) [ false ↦ false | true ↦ elim z as (λ p. Bool) [ true ↦ true | false ↦ meets lo hi n (a * 10) (b * 10 + 9) ] ]) q refl)

  -- a number of the range that goes on from one between a and b is found
  goes_by : (n a b v m : ℕ) (ds : List ℕ) (y : Bool) → nat_le lo b ≡ y → a ≤ v → v ≤ b → Goes v ds m → lo ≤ m → m ≤ hi
      → ((w : ℕ) (es : List ℕ) → a * 10 ≤ w → w ≤ b * 10 + 9 → Goes w es m → meets lo hi n (a * 10) (b * 10 + 9) ≡ true) → meets lo hi (suc n) a b ≡ true
  goes_by n a b v m ds true q l r g low high go =
      let first : nat_le a hi ≡ true = le-leb a hi (omega (arith, goes_le g)) in
      meets_step n a b true true first q
  goes_by n a b v m ds false q l r here low high go = absurd (omega (arith, leb-false lo b q))
  goes_by n a b v m ds false q l r (on {d = d} {ds = es} small is g) low high go =
      let up : v ≤ m = goes_le (on small is g) in
      let first : nat_le a hi ≡ true = le-leb a hi (omega arith) in
      meets_step n a b true false first q ∙ go (v * 10 + d) es (omega arith) (omega arith) g

  pub meets_true : (n a b v m : ℕ) (ds : List ℕ) → a ≤ v → v ≤ b → Goes v ds m → lo ≤ m → m ≤ hi → hi < n + a → 0 < a → meets lo hi n a b ≡ true
  meets_true zero a b v m ds l r g low high enough some = absurd (omega (arith, goes_le g))
  meets_true (suc n) a b v m ds l r g low high enough some =
      goes_by n a b v m ds (nat_le lo b) refl l r g low high
      (λ w es p q h. meets_true n (a * 10) (b * 10 + 9) w m es p q h low high (omega arith) (omega arith))

  -- what is found
  abbrev Found : ℕ → ℕ → Type 0
  Found a b = (v : ℕ) × (m : ℕ) × (ds : List ℕ) × (a ≤ v) × (v ≤ b) × Goes v ds m × (lo ≤ m) × (m ≤ hi)

  found_here : (a b : ℕ) → a ≤ b → lo ≤ hi → a ≤ hi → lo ≤ b → (a < lo) ⊎ (lo ≤ a) → Found a b
  found_here a b le some p q (inl h) = (lo, lo, [], omega arith, q, here, omega arith, some)
  found_here a b le some p q (inr h) = (a, a, [], omega arith, le, here, h, p)

  found_more : (a b : ℕ) → Found (a * 10) (b * 10 + 9) → Found a b
  found_more a b (w, m, ds, l, r, g, low, high) =
      let v : ℕ = w / 10 in
      let d : ℕ = w % 10 in
      let same : w ≡ v * 10 + d = omega arith in
      (v, m, (48 + d) ∷ ds, omega arith, omega arith, on (omega arith) refl (subst (λ z. Goes z ds m) same g), low, high)

  found_by : (n a b : ℕ) (x y : Bool) → nat_le a hi ≡ x → nat_le lo b ≡ y → a ≤ b → lo ≤ hi
      → (meets lo hi n (a * 10) (b * 10 + 9) ≡ true → Found (a * 10) (b * 10 + 9)) → meets lo hi (suc n) a b ≡ true → Found a b
  found_by n a b false y p q le some go e = false_true (sym (meets_step n a b false y p q) ∙ e)
  found_by n a b true true p q le some go e = found_here a b le some (leb-true a hi p) (leb-true lo b q) (cases_lt a lo)
  found_by n a b true false p q le some go e = found_more a b (go (sym (meets_step n a b true false p q) ∙ e))

  meets_found : (n a b : ℕ) → a ≤ b → lo ≤ hi → meets lo hi n a b ≡ true → Found a b
  unfolding meets
  meets_found zero a b le some e = false_true e
  meets_found (suc n) a b le some e = found_by n a b (nat_le a hi) (nat_le lo b) refl refl le some (meets_found n (a * 10) (b * 10 + 9) (omega arith) some) e

  -- v can go on exactly where it does; 0 is alone
  pub data Alive : ℕ → Type 0 where
    nought : lo ≡ 0 → Alive 0
    onward : {v m : ℕ} {ds : List ℕ} → 0 < v → Goes v ds m → lo ≤ m → m ≤ hi → Alive v

  pub can_true : (v m : ℕ) (ds : List ℕ) → 0 < v → Goes v ds m → lo ≤ m → m ≤ hi → can lo hi v ≡ true
  can_true zero m ds h g low high = absurd (omega arith)
  can_true (suc v) m ds h g low high = meets_true (suc hi) (suc v) (suc v) (suc v) m ds (omega arith) (omega arith) g low high (omega arith) (omega arith)

  pub can_alive : (v : ℕ) → lo ≤ hi → can lo hi v ≡ true → Alive v
  can_alive zero le e = nought (eqb-true lo 0 e)
  can_alive (suc v) le e =
      let (w, m, ds, l, r, g, low, high) = meets_found (suc hi) (suc v) (suc v) (omega arith) le e in
      onward (omega arith) (let same : w ≡ suc v = omega arith in subst (λ z. Goes z ds m) same g) low high

-- ---- the bytes

module _ {E : Type 0} (lo hi : ℕ) (ends : ℕ → ℕ → Option E) where
  pub first_inv : (b v : ℕ) → first_digit lo hi b ≡ Some v → can lo hi v ≡ true
  first_inv b v e = by (is_digit b) (can lo hi (b - 48)) refl e
    where
      by : (x y : Bool) → can lo hi (b - 48) ≡ y → (if x && y then Some (b - 48) else None) ≡ Some v → can lo hi v ≡ true
      by true true q e = subst (λ z. can lo hi z ≡ true) (some_is e) q
      by true false q e = none_some e
      by false y q e = none_some e

  after_can : (x d : ℕ) → digit_after lo hi x d ≡ true → can lo hi (x * 10 + d) ≡ true
  after_can x d e = by (nat_lt 0 x) e
    where
      by : (p : Bool) → p && can lo hi (x * 10 + d) ≡ true → can lo hi (x * 10 + d) ≡ true
      by true e = e
      by false e = false_true e

  next_inv : (x b y : ℕ) → next_digit lo hi ends x b ≡ Some (more y) → can lo hi y ≡ true
  next_inv x b y e = by (is_digit b) (digit_after lo hi x (b - 48)) (nat_le lo x && nat_le x hi) (ends x b) refl e
    where
      by : (p q r : Bool) (o : Option E) → digit_after lo hi x (b - 48) ≡ q
          → (if p then (if q then Some (more (x * 10 + (b - 48))) else None) else (if r then ended lo hi ends x o else None)) ≡ Some (more y) → can lo hi y ≡ true
      by true true r o h e = subst (λ z. can lo hi z ≡ true) (more_is (x * 10 + (b - 48)) (some_is e)) (after_can x (b - 48) h)
      by true false r o h e = none_some e
      by false q true None h e = none_some e
      by false q true (Some u) h e = absurd (more_last (sym (some_is e)))
      by false q false o h e = none_some e

  -- which byte ends a number of the range
  abbrev pub Ends : ℕ → Type 0
  Ends m = (c : ℕ) × (e : E) × (is_digit c ≡ false) × (ends m c ≡ Some e)

  next_end : (v c : ℕ) (e : E) → lo ≤ v → v ≤ hi → is_digit c ≡ false → ends v c ≡ Some e → next_digit lo hi ends v c ≡ Some (last (v, e))
  next_end v c e low high d s =
      by (is_digit c) (nat_le lo v) (nat_le v hi) (ends v c) d (le-leb lo v low) (le-leb v hi high) s
    where
      by : (p x y : Bool) (o : Option E) → p ≡ false → x ≡ true → y ≡ true → o ≡ Some e
          → (if p then (if digit_after lo hi v (c - 48) then Some (more (v * 10 + (c - 48))) else None) else (if x && y then ended lo hi ends v o else None)) ≡ Some (last (v, e))
      by true x y o d p q s = false_true (sym d)
      by false true true (Some u) d p q s = ap (λ z. Some (last (v, z))) (some_is s)
      by false true true None d p q s = none_some s
      by false true false o d p q s = false_true q
      by false false y o d p q s = false_true p

  pub digit_is : (c d : ℕ) → d < 10 → c ≡ 48 + d → is_digit c ≡ true
  digit_is c d small is =
      let low : nat_le 48 c ≡ true = le-leb 48 c (omega arith) in
      let high : nat_le c 57 ≡ true = le-leb c 57 (omega arith) in
      subst (λ z. z && nat_le c 57 ≡ true) (sym low) high

  after_some : (v d : ℕ) → 0 < v → can lo hi (v * 10 + d) ≡ true → digit_after lo hi v d ≡ true
  after_some v d h e = ap (λ p. p && can lo hi (v * 10 + d)) (lt-ltb 0 v h) ∙ e

  next_more : (v c d : ℕ) → d < 10 → c ≡ 48 + d → 0 < v → can lo hi (v * 10 + d) ≡ true → next_digit lo hi ends v c ≡ Some (more (v * 10 + d))
  next_more v c d small is some e =
      let same : d ≡ c - 48 = omega arith in
      let able : digit_after lo hi v (c - 48) ≡ true = subst (λ z. digit_after lo hi v z ≡ true) same (after_some v d some e) in
      by (is_digit c) (digit_after lo hi v (c - 48)) (digit_is c d small is) able ∙ ap (λ z. Some (more (v * 10 + z))) (sym same)
    where
      by : (p x : Bool) → p ≡ true → x ≡ true
          → (if p then (if x then Some (more (v * 10 + (c - 48))) else None) else (if nat_le lo v && nat_le v hi then ended lo hi ends v (ends v c) else None)) ≡ Some (more (v * 10 + (c - 48)))
      by true true p q = refl
      by true false p q = false_true q
      by false x p q = false_true p

  pub first_some : (c d : ℕ) → d < 10 → c ≡ 48 + d → can lo hi d ≡ true → first_digit lo hi c ≡ Some d
  first_some c d small is e =
      let same : d ≡ c - 48 = omega arith in
      by (is_digit c) (can lo hi (c - 48)) (digit_is c d small is) (subst (λ z. can lo hi z ≡ true) same e) ∙ ap Some (sym same)
    where
      by : (x y : Bool) → x ≡ true → y ≡ true → (if x && y then Some (c - 48) else None) ≡ Some (c - 48)
      by true true p q = refl
      by true false p q = false_true q
      by false y p q = false_true p

  abbrev pub Digits : ℕ → List ℕ → ℕ × E → List ℕ → Type 0
  Digits = Loop (λ v. Has (byte (next_digit lo hi ends v)))

  -- the digits of m and then its end
  pub digits_text : (v m : ℕ) (ds : List ℕ) → 0 < v → Goes v ds m → lo ≤ m → m ≤ hi → (c : ℕ) (e : E) → is_digit c ≡ false → ends m c ≡ Some e
      → (x : List ℕ) → Digits v (ds ++ c ∷ x) (m, e) x
  digits_text v m ds some here low high c e d s x = stop (c, refl, next_end v c e low high d s)
  digits_text v m (b ∷ ds) some (on {d = k} small is g) low high c e d s x =
      again (b, refl, next_more v b k small is some (can_true lo hi (v * 10 + k) m ds (omega arith) g low high))
      (digits_text (v * 10 + k) m ds (omega arith) g low high c e d s x)

  pub nought_text : lo ≡ 0 → (c : ℕ) (e : E) → is_digit c ≡ false → ends 0 c ≡ Some e → (x : List ℕ) → Digits 0 (c ∷ x) (0, e) x
  nought_text z c e d s x = stop (c, refl, next_end 0 c e (omega arith) (omega arith) d s)

  module _ (le : lo ≤ hi) (each : (m : ℕ) → lo ≤ m → m ≤ hi → Ends m) where
    digits_alive : (v : ℕ) → Alive lo hi v → Completes (Digits v) []
    digits_alive v (nought z) =
        let (c, e, d, s) = each 0 (omega arith) (omega arith) in
        record { bytes = c ∷ []; value = (0, e); holds = λ x. nought_text z c e d s x }
    digits_alive v (onward {m = m} {ds = ds} h g low high) =
        let (c, e, d, s) = each m low high in
        record {
          bytes = ds ++ c ∷ [];
          value = (m, e);
          holds = λ x. subst (λ z. Digits v z (m, e) x) (sym (append_assoc ds (c ∷ []) x)) (digits_text v m ds h g low high c e d s x);
        }

    next_good : (v : ℕ) → Alive lo hi v → Good (byte (next_digit lo hi ends v))
    next_good v (nought z) =
        let (c, e, d, s) = each 0 (omega arith) (omega arith) in
        (c, last (0, e), next_end 0 c e (omega arith) (omega arith) d s, tt)
    next_good v (onward {m = m} h here low high) =
        let (c, e, d, s) = each m low high in
        (c, last (m, e), next_end m c e low high d s, tt)
    next_good v (onward {m = m} h (on {d = d} {c = c} {ds = ds} small is g) low high) =
        (c, more (v * 10 + d), next_more v c d small is h (can_true lo hi (v * 10 + d) m ds (omega arith) g low high), tt)

    turns_good : GoodTurns (λ v. byte (next_digit lo hi ends v)) (λ v. can lo hi v ≡ true)
    turns_good = record {
      keeps = λ x y ts r i (c, w, e). next_inv x c y e;
      takes = λ x ts r v i (c, w, e). omega (arith, ap length w);
      alive = λ x i. digits_alive x (can_alive lo hi x le i);
    }

    first_good : Good (byte (first_digit lo hi))
    first_good = by lo refl
      where
        by : (l : ℕ) → lo ≡ l → Good (byte (first_digit lo hi))
        by zero z = (48, 0, first_some 48 0 (omega arith) refl (eq-eqb lo 0 z), tt)
        by (suc l) z =
            let (d, ds, small, some, g) = spelled lo (omega arith) in
            (48 + d, d, first_some (48 + d) d small refl (can_true lo hi d lo ds some g (omega arith) le), tt)

    pub number_good : Good (number lo hi ends)
    number_good = (first_good, λ v (ts, r, (c, w, e)). ((λ x. can lo hi x ≡ true), first_inv c v e, turns_good, λ y i. next_good y (can_alive lo hi y le i)))
